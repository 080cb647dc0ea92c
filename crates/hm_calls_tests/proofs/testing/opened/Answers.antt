use Rattle.hm_key.specs.Memory.{extents_of}
use Rattle.hm_cursor.specs.Told.{fulls}
use Rattle.hm_calls_tests.proofs.TestLemmas.{older_below}
use Rattle.hm_calls_tests.proofs.testing.opened.Goals as goal

pub returns : goal.returns
returns c =
    let store = c.args.volume.store in
    record {
      balanced = c.requires.balanced;
      known = older_below c.args.volume.next (fulls (store.elements.list.items, extents_of store.extents.list.items)) c.requires.below;
    }
