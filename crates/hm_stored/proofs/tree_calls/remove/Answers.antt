-- An element is taken out.
use Rattle.std.proofs.Common.{ap, rules}
use Rattle.hm_types.specs.Space.{nothing}
use Rattle.hm_key.specs.Elements.{removed}
use Rattle.hm_key.specs.Key.{key_of}
use Rattle.hm_key.specs.Marks.{MarksJoin}
use Rattle.hm_pages.specs.Store.{contents}
use Rattle.hm_stored.specs.Heap.{heap_of}
use Rattle.hm_stored.specs.declared.space.Space.{Space}
use Rattle.hm_stored.proofs.StoredLemmas.{TreeWrites, lent_written, on_ok}
use Rattle.hm_stored.proofs.tree_calls.remove.Goals as goal

pub returns-clause-writes : goal.returns-clause-writes
unfolding heap_of
returns-clause-writes g c =
    let heap = λ (s : Space g.row.D.Denot g.D.Disk). heap_of (contents s.pages.store) (g.D.Disk.told s.disk) s.books in
    let begun = c.over_near-tree.result in
    let tree = c.remove-answer.new.self in
    let did = c.remove-answer.ensures in
    let back = c.into_parts-space.result in
    let change = removed (key_of c.args.at.now) in
    let marked = MarksJoin (key_of c.args.at.now) in
    let wrote : TreeWrites nothing change marked c.remove-answer.result begun.intact (heap begun.space.now) (heap tree.space.now)
    begun.root tree.root tree.intact = record {
      ok = on_ok (λ is. record { elements = is.elements; mark = is.mark; extents = is.extents }) c.remove-answer.result did.ok;
      stays = record { frame = ap (λ f. f.0) did.frame; spent = record { room = did.space.room; free = did.space.free } };
    } in
    lent_written nothing change marked heap c.args.space.now begun.space.now tree.space.now back.0.now c.end_change.new.self _
    c.args.root begun.root tree.root back.1 begun.intact tree.intact c.is_ok.result c.args.space.now.books.most c.remove-answer.result wrote
    (ap (λ m. m.now) c.over_near-tree.ensures.space) c.over_near-tree.ensures.root c.over_near-tree.ensures.intact
    (ap (λ m. m.now) c.into_parts-space.ensures.space) c.into_parts-space.ensures.root (search rules) c.into_parts-space.ensures.tree
    c.is_ok.ensures.value c.end_change.ensures.ends
