-- The last element up to a key is looked for.
use Rattle.std.proofs.Common.{ap, rules}
use Rattle.hm_pages.specs.Store.{contents}
use Rattle.hm_stored.specs.Heap.{heap_of}
use Rattle.hm_stored.specs.declared.space.Space.{Space}
use Rattle.hm_stored.proofs.StoredLemmas.{TreeReads, lent_read}
use Rattle.hm_stored.proofs.tree_calls.last_at_or_before.Goals as goal

pub returns-clause-reads : goal.returns-clause-reads
unfolding heap_of
returns-clause-reads g c =
    let heap = λ (s : Space g.row.D.Denot g.D.Disk). heap_of (contents s.pages.store) (g.D.Disk.told s.disk) s.books in
    let begun = c.over-tree.result in
    let tree = c.last_at_or_before-answer.new.self in
    let did = c.last_at_or_before-answer.ensures in
    let back = c.into_parts-space.result in
    let read : TreeReads begun.intact (heap begun.space.now) (heap tree.space.now) begun.root tree.root tree.intact = record {
      elements = did.keeps.elements;
      mark = did.keeps.mark;
      extents = did.keeps.extents;
      room = did.keeps.room;
      free = did.keeps.free;
      frame = ap (λ f. f.0) did.frame;
    } in
    lent_read heap c.args.space.now begun.space.now tree.space.now back.0.now _ c.args.root begun.root tree.root back.1 begun.intact tree.intact read
    (ap (λ m. m.now) c.over-tree.ensures.space) c.over-tree.ensures.root c.over-tree.ensures.intact (ap (λ m. m.now) c.into_parts-space.ensures.space)
    c.into_parts-space.ensures.root (search rules) c.into_parts-space.ensures.tree
