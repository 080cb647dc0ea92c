use Rattle.std.proofs.Common.{arith}
use Rattle.hm_cursor.specs.Told.{fulls}
use Rattle.hm_key.specs.Memory.{extents_of}
use Rattle.hm_records.proofs.ChangeLemmas.{below_later}
use Rattle.hm_cursor.proofs.ViewsLemmas.{below_still}
use Rattle.hm_store_tests.proofs.dirs_tests.take.Goals as goal

pub returns : goal.returns
returns g c =
    let wrote = c.in_ok-close_name.ensures.ok c.requires.balanced in
    let was = fulls (c.args.store.now.elements.list.items, extents_of c.args.store.now.extents.list.items) in
    record { balanced = wrote.0; below = below_still wrote.1.writes.up_to (below_later was c.args.id.0 _ (omega arith) c.requires.below) }
