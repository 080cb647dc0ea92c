-- An element is looked for.
use Rattle.std.proofs.Common.{ap, rules}
use Rattle.hm_pages.specs.Store.{contents}
use Rattle.hm_stored.specs.Heap.{heap_of}
use Rattle.hm_stored.specs.declared.space.Space.{Space}
use Rattle.hm_stored.proofs.StoredLemmas.{TreeReads, lent_read}
use Rattle.hm_stored.proofs.tree_calls.first_at_or_after.Goals as goal

pub returns-clause-reads : goal.returns-clause-reads
unfolding heap_of
returns-clause-reads g c =
    let heap = λ (s : Space g.row.D.Denot g.D.Disk). heap_of (contents s.pages.store) (g.D.Disk.told s.disk) s.books in
    let begun = c.over_near-tree.result in
    let tree = c.first_at_or_after-answer.new.self in
    let did = c.first_at_or_after-answer.ensures in
    let back = c.into_parts-space.result in
    let read : TreeReads begun.intact (heap begun.space.now) (heap tree.space.now) begun.root tree.root tree.intact = record {
      elements = did.keeps.elements;
      mark = did.keeps.mark;
      extents = did.keeps.extents;
      room = did.keeps.room;
      free = did.keeps.free;
      frame = ap (λ f. f.0) did.frame;
    } in
    lent_read heap c.args.space.now begun.space.now tree.space.now back.0.now _ c.args.root begun.root tree.root back.1 begun.intact tree.intact read
    (ap (λ m. m.now) c.over_near-tree.ensures.space) c.over_near-tree.ensures.root c.over_near-tree.ensures.intact
    (ap (λ m. m.now) c.into_parts-space.ensures.space)
    c.into_parts-space.ensures.root (search rules) c.into_parts-space.ensures.tree
