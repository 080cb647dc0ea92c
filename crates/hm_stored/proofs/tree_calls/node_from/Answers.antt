-- A node is looked for.
use Rattle.std.proofs.Common.{◌≡◌, ap, rules, ◌∙◌}
use Rattle.hm_key.specs.Key.{key_of}
use Rattle.hm_pages.specs.Store.{contents}
use Rattle.hm_stored.specs.Heap.{heap_of, pages_of}
use Rattle.hm_stored.specs.declared.space.Space.{Space}
use Rattle.hm_stored.proofs.MovingLemmas.{looked_through, stands_there}
use Rattle.hm_stored.proofs.StoredLemmas.{TreeReads, lent_read}
use Rattle.hm_stored.proofs.tree_calls.node_from.Goals as goal

pub returns-clause-reads : goal.returns-clause-reads
unfolding heap_of
returns-clause-reads g c =
    let heap = λ (s : Space g.row.D.Denot g.D.Disk). heap_of (contents s.pages.store) (g.D.Disk.told s.disk) s.books in
    let begun = c.over-tree.result in
    let tree = c.node_from-answer.new.self in
    let did = c.node_from-answer.ensures in
    let back = c.into_parts-space.result in
    let read : TreeReads begun.intact (heap begun.space.now) (heap tree.space.now) begun.root tree.root tree.intact =
    looked_through (heap begun.space.now) (heap tree.space.now) begun.root tree.root begun.intact tree.intact did.same.pages did.same.rest
    (ap (λ f. f.0) did.same.frame) did.stays.0 did.stays.1 in
    lent_read heap c.args.space.now begun.space.now tree.space.now back.0.now _ c.args.root begun.root tree.root back.1 begun.intact tree.intact read
    (ap (λ m. m.now) c.over-tree.ensures.space) c.over-tree.ensures.root c.over-tree.ensures.intact (ap (λ m. m.now) c.into_parts-space.ensures.space)
    c.into_parts-space.ensures.root (search rules) c.into_parts-space.ensures.tree

pub returns-clause-there : goal.returns-clause-there
unfolding heap_of
returns-clause-there g c =
    let heap = λ (s : Space g.row.D.Denot g.D.Disk). heap_of (contents s.pages.store) (g.D.Disk.told s.disk) s.books in
    let begun = c.over-tree.result in
    let tree = c.node_from-answer.new.self in
    let back = c.into_parts-space.result in
    let did = c.node_from-answer.ensures in
    let came : heap c.space-1.given.0 ≡ heap back.0.now = search rules in
    stands_there c.args.chosen.now (key_of c.args.from.now) (heap c.args.space.now) (heap begun.space.now) (heap tree.space.now)
    (heap c.space-1.given.0) c.args.root begun.root c.node_from-answer.result (ap (λ m. heap m.now) c.over-tree.ensures.space) c.over-tree.ensures.root
    (came ∙ ap (λ m. heap m.now) c.into_parts-space.ensures.space) did.same.pages c.requires.tree did.ok

pub returns-clause-nodes : goal.returns-clause-nodes
unfolding heap_of
returns-clause-nodes g c =
    let heap = λ (s : Space g.row.D.Denot g.D.Disk). heap_of (contents s.pages.store) (g.D.Disk.told s.disk) s.books in
    let back = c.into_parts-space.result in
    let came : heap c.space-1.given.0 ≡ heap back.0.now = search rules in
    ap pages_of (came ∙ ap (λ m. heap m.now) c.into_parts-space.ensures.space) ∙ c.node_from-answer.ensures.same.pages
    ∙ ap (λ m. pages_of (heap m.now)) c.over-tree.ensures.space
