use Rattle.std.proofs.Common.{◌≡◌, Some, None, sym, subst, arith, max, refl}
use Rattle.std.specs.Prelude.{insert}
use Rattle.hm_fields.specs.Pages.{page_in}
use Rattle.hm_key.specs.Elements.{last_id}
use Rattle.hm_key.specs.Key.{key_of, IsBoundary}
use Rattle.hm_key.specs.declared.element.Element.{Element}
use Rattle.hm_node.specs.Head.{head_in}
use Rattle.hm_node.specs.Leaf.{element_in, leaf_in, IsPlaced}
use Rattle.hm_node.specs.Node.{node_in}
use Rattle.hm_node.specs.Places.{place}
use Rattle.hm_node.specs.declared.leaf.Leaf.{Leaf}
use Rattle.hm_node.specs.declared.node.Node.TheVariants.{Leaf as leaf_node}
use Rattle.hm_node.proofs.PlaceLemmas.{first_length}
use Rattle.hm_btree.specs.Edits.{lower_count, LeafGrown}
use Rattle.hm_btree.specs.Shape.{IsShaped}
use Rattle.hm_btree.proofs.InsertLemmas.{becomes_two, both_many, some_upper}
use Rattle.hm_btree.proofs.PageLemmas.{leaf_split, page_shaped, spells_itself}
use Rattle.hm_btree.proofs.ShapeLemmas.{each_insert, elements_each}
use Rattle.hm_btree.proofs.insert.split_leaf.Goals as goal

pub insert_and_cut-more-requires : goal.insert_and_cut-more-requires
insert_and_cut-more-requires c =
    rw c.of-leaf.ensures (omega (arith, c.requires.at, first_length (λ i. element_in c.args.page.now (place i)) (head_in c.args.page.now).count))

pub bounds-deref-0 : goal.bounds-deref-0
bounds-deref-0 c =
    some_upper (lower_count 63 c.args.at c.ends_kind-ends.result)
    (max c.of-leaf.result.mirror (last_id c.args.element.now)) (both_many 63 c.args.at c.ends_kind-ends.result (omega arith))
    (insert c.of-leaf.result.places.items c.args.at c.args.element.now)
    c.insert_and_cut-more.new.leaf c.in-Some.more c.in-Some.ensures c.deref.result.now c.deref.ensures.0

pub returns-in-None : goal.returns-in-None
returns-in-None c =
    let page = c.args.page.now in
    let e = c.args.element.now in
    let leaf = leaf_in page in
    let here : node_in page ≡ leaf_node leaf = rw c.requires.leaf.kind refl in
    let shape = subst IsShaped here (page_shaped page c.requires.leaf.holds) in
    let grown = subst (λ (l : Leaf). LeafGrown (lower_count 63 c.args.at c.ends_kind-ends.result) (max l.mirror (last_id e)) (insert l.places.items c.args.at e)
    c.insert_and_cut-more.new.leaf None)
    c.of-leaf.ensures c.in-None.ensures in
    leaf_split (max leaf.mirror (last_id e)) (insert leaf.places.items c.args.at e) c.write.new.page (page_in c.args.upper.now)
    c.insert_and_cut-more.new.leaf None
    c.write.ensures (each_insert IsPlaced c.args.at e leaf.places.items c.requires.element (elements_each leaf shape)) grown tt

pub returns-in-Some : goal.returns-in-Some
returns-in-Some c =
    let page = c.args.page.now in
    let e = c.args.element.now in
    let leaf = leaf_in page in
    let here : node_in page ≡ leaf_node leaf = rw c.requires.leaf.kind refl in
    let shape = subst IsShaped here (page_shaped page c.requires.leaf.holds) in
    let grown = subst (λ (l : Leaf). LeafGrown (lower_count 63 c.args.at c.ends_kind-ends.result) (max l.mirror (last_id e)) (insert l.places.items c.args.at e)
    c.insert_and_cut-more.new.leaf (Some c.in-Some.more))
    c.of-leaf.ensures c.in-Some.ensures in
    let bound = subst (λ (x : Element). IsBoundary c.boundary.result (key_of x.base)) (sym c.index-deref-0.is) c.boundary.ensures in
    let becomes = becomes_two (lower_count 63 c.args.at c.ends_kind-ends.result)
    (max leaf.mirror (last_id e)) (both_many 63 c.args.at c.ends_kind-ends.result (omega arith))
    (insert leaf.places.items c.args.at e) c.insert_and_cut-more.new.leaf c.in-Some.more grown
    c.deref.result.now c.deref.ensures.0 c.index-deref-0.result c.boundary.result (node_in c.write-in-Some.new.page) c.index-deref-0.is bound
    c.write-in-Some.ensures.value in
    leaf_split (max leaf.mirror (last_id e)) (insert leaf.places.items c.args.at e) c.write.new.page c.write-in-Some.new.page
    c.insert_and_cut-more.new.leaf (Some c.boundary.result)
    c.write.ensures (each_insert IsPlaced c.args.at e leaf.places.items c.requires.element (elements_each leaf shape)) becomes
    (spells_itself c.write-in-Some.new.page (leaf_node c.in-Some.more) c.write-in-Some.ensures)
