-- An element is added.
use Rattle.std.proofs.Common.{ap, rules}
use Rattle.hm_types.specs.Space.{in_zone}
use Rattle.hm_types.specs.declared.space.TheConstants.{INSERT_ROOM}
use Rattle.hm_types.specs.declared.zone.TheConstants.{TREE_ZONE}
use Rattle.hm_key.specs.Elements.{inserted, last_id}
use Rattle.hm_key.specs.Key.{key_of}
use Rattle.hm_key.specs.Marks.{Marks}
use Rattle.hm_pages.specs.Store.{contents}
use Rattle.hm_stored.specs.Heap.{heap_of}
use Rattle.hm_stored.specs.declared.space.Space.{Space}
use Rattle.hm_stored.proofs.StoredLemmas.{TreeWrites, lent_written, on_ok}
use Rattle.hm_stored.proofs.tree_calls.insert.Goals as goal

pub returns-clause-writes : goal.returns-clause-writes
unfolding heap_of
returns-clause-writes g c =
    let heap = λ (s : Space g.row.D.Denot g.D.Disk). heap_of (contents s.pages.store) (g.D.Disk.told s.disk) s.books in
    let begun = c.over-tree.result in
    let tree = c.insert-answer.new.self in
    let did = c.insert-answer.ensures in
    let back = c.into_parts-space.result in
    let change = inserted c.args.e.now in
    let marked = Marks (key_of c.args.e.now.base) (last_id c.args.e.now) in
    let wrote : TreeWrites (in_zone TREE_ZONE INSERT_ROOM) change marked c.insert-answer.result begun.intact (heap begun.space.now) (heap tree.space.now)
    begun.root tree.root tree.intact = record {
      ok = on_ok (λ is. record { elements = is.elements; mark = is.mark; extents = is.extents }) c.insert-answer.result did.ok;
      stays = record { frame = ap (λ f. f.0) did.frame; spent = record { room = did.space.room; free = did.space.free } };
    } in
    lent_written (in_zone TREE_ZONE INSERT_ROOM) change marked heap c.args.space.now begun.space.now tree.space.now back.0.now c.end_change.new.self _
    c.args.root begun.root tree.root back.1 begun.intact tree.intact c.is_ok.result c.args.space.now.books.most c.insert-answer.result wrote
    (ap (λ m. m.now) c.over-tree.ensures.space) c.over-tree.ensures.root c.over-tree.ensures.intact
    (ap (λ m. m.now) c.into_parts-space.ensures.space) c.into_parts-space.ensures.root (search rules) c.into_parts-space.ensures.tree
    c.is_ok.ensures.value c.end_change.ensures.ends
