-- A node moves.
use Rattle.std.proofs.Common.{ap, rules, ◌∙◌}
use Rattle.hm_types.specs.Space.{in_zone}
use Rattle.hm_types.specs.declared.zone.TheConstants.{TREE_ZONE}
use Rattle.hm_btree.specs.Tree.{told_elements}
use Rattle.hm_btree.specs.declared.space.TheConstants.{NODE_BYTES}
use Rattle.hm_key.specs.Marks.{MarksStay}
use Rattle.hm_pages.specs.Store.{contents}
use Rattle.hm_stored.specs.Heap.{heap_of, pages_of}
use Rattle.hm_stored.specs.Moving.{outcome}
use Rattle.hm_stored.specs.declared.space.Space.{Space}
use Rattle.hm_stored.proofs.MovingLemmas.{if_ok, moved_back, outcome_is_ok, outcome_ok, same_map}
use Rattle.hm_stored.proofs.StoredLemmas.{TreeWrites, lent_written}
use Rattle.hm_stored.proofs.tree_calls.move_node.Goals as goal

pub returns-clause-writes : goal.returns-clause-writes
unfolding heap_of
returns-clause-writes g c =
    let heap = λ (s : Space g.row.D.Denot g.D.Disk). heap_of (contents s.pages.store) (g.D.Disk.told s.disk) s.books in
    let begun = c.over-tree.result in
    let tree = c.move_node-answer.new.self in
    let did = c.move_node-answer.ensures in
    let back = c.into_parts-space.result in
    let answer = outcome c.move_node-answer.result in
    let wrote : TreeWrites (in_zone TREE_ZONE NODE_BYTES) (λ es. es) MarksStay answer begun.intact (heap begun.space.now) (heap tree.space.now)
    begun.root tree.root tree.intact = record {
      ok = outcome_ok (λ to is whole. record {
        elements = ap (λ t. told_elements t (pages_of (heap tree.space.now)) tree.root) whole ∙ (is.elements ∙ same_map _);
        mark = is.marks;
        extents = is.kept.extents;
      }) c.move_node-answer.result did.ok did.intact;
      stays = record { frame = ap (λ f. f.0) did.spent.frame; spent = record { room = did.spent.space.room; free = did.spent.space.free } };
    } in
    lent_written (in_zone TREE_ZONE NODE_BYTES) (λ es. es) MarksStay heap c.args.space.now begun.space.now tree.space.now back.0.now
    c.end_change.new.self _ c.args.root begun.root tree.root back.1 begun.intact tree.intact c.is_ok.result c.args.space.now.books.most answer wrote
    (ap (λ m. m.now) c.over-tree.ensures.space) c.over-tree.ensures.root c.over-tree.ensures.intact
    (ap (λ m. m.now) c.into_parts-space.ensures.space) c.into_parts-space.ensures.root (search rules) c.into_parts-space.ensures.tree
    (c.is_ok.ensures.value ∙ outcome_is_ok c.move_node-answer.result) c.end_change.ensures.ends

pub returns-clause-moves : goal.returns-clause-moves
unfolding heap_of
returns-clause-moves g c =
    let heap = λ (s : Space g.row.D.Denot g.D.Disk). heap_of (contents s.pages.store) (g.D.Disk.told s.disk) s.books in
    let begun = c.over-tree.result in
    let tree = c.move_node-answer.new.self in
    let back = c.into_parts-space.result in
    moved_back c.args.at (heap c.args.space.now) (heap begun.space.now) (heap tree.space.now) (heap back.0.now) (heap c.end_change.new.self)
    (heap c.space-1.given.0) c.is_ok.result
    c.move_node-answer.result (ap (λ m. heap m.now) c.over-tree.ensures.space) (ap (λ m. heap m.now) c.into_parts-space.ensures.space) (search rules)
    c.is_ok.ensures.value c.end_change.ensures.ends (if_ok (λ to is. is.pages) c.move_node-answer.result c.move_node-answer.ensures.ok)
