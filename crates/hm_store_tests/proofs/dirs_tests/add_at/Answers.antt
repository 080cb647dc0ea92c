use Rattle.std.proofs.Common.{◌≡◌, length, ap, arith, rules}
use Rattle.hm_types.specs.Name.{IsName}
use Rattle.hm_key.specs.Memory.{extents_of}
use Rattle.hm_records.specs.declared.entry.DirEntry.{DirEntry}
use Rattle.hm_records.proofs.EntryLemmas.{length-entry}
use Rattle.hm_cursor.specs.Told.{fulls}
use Rattle.hm_records.proofs.ChangeLemmas.{below_later}
use Rattle.hm_cursor.proofs.ViewsLemmas.{below_still}
use Rattle.hm_store_tests.proofs.dirs_tests.add_at.Goals as goal

pub add_name-requires-clause-room : goal.add_name-requires-clause-room
add_name-requires-clause-room c =
    let entry : DirEntry = record { obj = c.args.obj; name = c.of.result } in
    let same : c.of.result ≡ c.args.name.now = cc (c.of.ensures, c.in_ok-from_slice.ensures.items) in
    let name : IsName c.args.name.now = c.is_name.ensures.0 (search rules) in
    record { tree = omega arith; payload = omega (arith, length-entry entry, ap length same, name.size) }

pub returns : goal.returns
returns c =
    let wrote = c.in_ok-add_name.ensures.ok c.requires.balanced in
    let was = fulls (c.args.store.now.elements.list.items, extents_of c.args.store.now.extents.list.items) in
    record { balanced = wrote.0; below = below_still wrote.1.writes.up_to (below_later was c.args.id.0 _ (omega arith) c.requires.below) }
