use Rattle.std.proofs.Common.{◌≡◌, List, None, ap, subst, arith, max, length}
use Rattle.hm_fields.specs.Pages.{page_in}
use Rattle.hm_key.specs.Elements.{last_id}
use Rattle.hm_key.specs.declared.element.Element.{Element}
use Rattle.hm_node.specs.Head.{head_in}
use Rattle.hm_node.specs.Leaf.{element_in, first_elements, leaf_in}
use Rattle.hm_node.specs.Places.{place}
use Rattle.hm_node.specs.declared.leaf.Leaf.{Leaf}
use Rattle.hm_node.proofs.EditLemmas.{leaf_bytes}
use Rattle.hm_node.proofs.PlaceLemmas.{first_length}
use Rattle.hm_btree.specs.Grow.{LeafBecomes, upper_of}
use Rattle.hm_key.proofs.PlaceLemmas.{inserted_here}
use Rattle.hm_btree.proofs.insert.insert_in_leaf.Goals as goal

pub returns-then-from-lt-MOST_LEAF_ELEMENTS : goal.returns-then-from-lt-MOST_LEAF_ELEMENTS
returns-then-from-lt-MOST_LEAF_ELEMENTS c =
    let e = c.args.element.now in
    let leaf = leaf_in c.args.page.now in
    let new = c.insert_element.new.page in
    let held = c.insert_element.ensures.held in
    let few = (leaf_bytes new held).few in
    let long : length (first_elements new (head_in new).count) ≡ (head_in new).count = first_length (λ i. element_in new (place i)) (head_in new).count in
    let list = ap (λ (l : Leaf). length l.places.items) c.insert_element.ensures.leaf in
    record {
      held = held;
      becomes = λ order.
          subst (λ (l : List Element). LeafBecomes (max leaf.mirror (last_id e)) l (leaf_in new) None)
          (inserted_here e leaf.places.items c.leaf_place_in-at.result (c.leaf_place_in-at.ensures.ordered order))
          (c.insert_element.ensures.leaf, omega (arith, few, long, list));
      above = tt;
    }

pub returns-else-from-lt-MOST_LEAF_ELEMENTS : goal.returns-else-from-lt-MOST_LEAF_ELEMENTS
returns-else-from-lt-MOST_LEAF_ELEMENTS c =
    let e = c.args.element.now in
    let leaf = leaf_in c.args.page.now in
    let split = c.split_leaf.ensures in
    record {
      held = split.held;
      becomes = λ order.
          subst (λ (l : List Element). LeafBecomes (max leaf.mirror (last_id e)) l (leaf_in c.split_leaf.new.page)
          (upper_of c.split_leaf.result (page_in c.split_leaf.new.upper)))
          (inserted_here e leaf.places.items c.leaf_place_in-at.result (c.leaf_place_in-at.ensures.ordered order)) split.becomes;
      above = split.above;
    }
