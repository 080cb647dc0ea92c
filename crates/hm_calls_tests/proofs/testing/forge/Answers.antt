use Rattle.std.proofs.Common.{ℕ, Some, ◌+◌, arith}
use Rattle.hm_key.specs.Memory.{extents_of}
use Rattle.hm_cursor.specs.Told.{fulls}
use Rattle.hm_records.proofs.ChangeLemmas.{below_later}
use Rattle.hm_cursor.proofs.ViewsLemmas.{below_still}
use Rattle.hm_calls_tests.proofs.testing.forge.Goals as goal

pub returns : goal.returns
returns c =
    let wrote = c.in_ok-add_version.ensures.ok c.requires.balanced in
    let next = c.args.volume.now.next in
    let was = fulls (c.args.volume.now.store.elements.list.items, extents_of c.args.volume.now.store.extents.list.items) in
    record { balanced = wrote.0; below = below_still wrote.1.up_to (below_later was next (next + 1) (omega arith) c.requires.below) }
