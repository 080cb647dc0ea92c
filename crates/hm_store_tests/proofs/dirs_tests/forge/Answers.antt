use Rattle.std.proofs.Common.{arith}
use Rattle.hm_key.specs.Memory.{extents_of}
use Rattle.hm_cursor.specs.Told.{fulls}
use Rattle.hm_records.proofs.ChangeLemmas.{below_later}
use Rattle.hm_dirs.proofs.WriteLemmas.{new_bytes}
use Rattle.hm_cursor.proofs.ViewsLemmas.{below_still}
use Rattle.hm_store_tests.proofs.dirs_tests.forge.Goals as goal

pub add_version-requires-clause-new : goal.add_version-requires-clause-new
add_version-requires-clause-new c =
    new_bytes c.entry_base.result 3 c.args.directory c.args.key c.args.id.0 2 c.args.bytes.now c.entry_base.ensures (omega arith) (omega arith)
    (omega arith) (grind arith) (grind arith)

pub returns : goal.returns
returns c =
    let wrote = c.in_ok-add_version.ensures.ok c.requires.balanced in
    let was = fulls (c.args.store.now.elements.list.items, extents_of c.args.store.now.extents.list.items) in
    record { balanced = wrote.0; below = below_still wrote.1.up_to (below_later was c.args.id.0 _ (omega arith) c.requires.below) }
