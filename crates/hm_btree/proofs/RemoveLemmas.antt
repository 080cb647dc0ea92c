-- A leaf that loses an element. Its place is looked at without its parent, since it may have too few elements
-- for a leaf below the root until it is joined with a neighbour.
use Rattle.std.proofs.Common.{◌≡◌, ℕ, ◌+◌, List, length, refl, sym, ap, subst, ◌∙◌, arith, remove}
use Rattle.std.specs.Prelude.{IsSome}
use Rattle.std.proofs.lemmas.List.Edits.{length-remove}
use Rattle.std.proofs.lemmas.List.Elements.{recursion_from_All}
use Rattle.hm_types.specs.Elements.{Key}
use Rattle.hm_types.specs.Offset.{IsOffset}
use Rattle.hm_fields.specs.Pages.{PageMap}
use Rattle.hm_key.specs.Elements.{element_key, element_at, removed}
use Rattle.hm_key.specs.Places.{leading, IsPlace}
use Rattle.hm_key.specs.declared.element.Element.{Element}
use Rattle.hm_key.proofs.ElementLemmas.{each_removed, content_removed}
use Rattle.hm_key.proofs.PlaceLemmas.{removed-place, IsPlace-within}
use Rattle.hm_node.specs.Leaf.{IsUpTo}
use Rattle.hm_node.specs.declared.leaf.Leaf.{Leaf}
use Rattle.hm_node.specs.declared.node.Node.{Node}
use Rattle.hm_node.specs.declared.node.Node.TheVariants.{Leaf as leaf_node}
use Rattle.hm_search.specs.Place.{IsInside}
use Rattle.hm_search.specs.Tree.{IsTree}
use Rattle.hm_search.specs.declared.subtree.Subtree.{Subtree}
use Rattle.hm_btree.specs.Marking.{TakesOut}
use Rattle.hm_btree.specs.Below.{Changed}
use Rattle.hm_btree.specs.Edits.{leaf_of}
use Rattle.hm_btree.specs.Shrink.{loose}
use Rattle.hm_btree.proofs.LeafLemmas.{changed_leaf, leaf_content, leaf_offsets}
use Rattle.hm_btree.proofs.LocalLemmas.{leading_place}
use Rattle.hm_btree.proofs.MarkLemmas.{takes_leaf}

pub loose_tree : (map : PageMap) (height : ℕ) (place : Subtree) (node : Node) → IsTree map height place node → IsTree map height (loose place) node
loose_tree map height place node tree = record {
  sound = tree.sound;
  level = tree.level;
  fits = record { level = tt; count = tt; bounds = tree.fits.bounds; mirror = tt };
  below = tree.below;
}

module _ (map : PageMap) (height : ℕ) (place : Subtree) (key : Key) (leaf after : Leaf) (i : ℕ) where
  pub removed_leaf : IsTree map height place (leaf_node leaf) → IsInside place.left place.right key
      → IsSome (element_at key leaf.places.items) → i ≡ leading key leaf.places.items → after ≡ leaf_of leaf.mirror (remove leaf.places.items i)
      → Changed (removed key) key TakesOut (loose place) height map map (leaf_node leaf) (leaf_node after)
  removed_leaf tree inside there at now =
      let is : IsPlace key leaf.places.items i = subst (λ (n : ℕ). IsPlace key leaf.places.items n) (sym at)
      (leading_place key leaf.places.items tree.sound.order there) in
      let items : remove leaf.places.items i ≡ removed key leaf.places.items = sym (removed-place key leaf.places.items i is) in
      let short : length (removed key leaf.places.items) + 1 ≡ length leaf.places.items =
      ap (λ (l : List Element). length l + 1) (sym items) ∙ length-remove leaf.places.items i (IsPlace-within key leaf.places.items i is) in
      subst (λ (l : Leaf). Changed (removed key) key TakesOut (loose place) height map map (leaf_node leaf) (leaf_node l))
      (sym (now ∙ ap (leaf_of leaf.mirror) items))
      (changed_leaf (removed key) key TakesOut (loose place) height map leaf (leaf_of leaf.mirror (removed key leaf.places.items))
      (loose_tree map height place (leaf_node leaf) tree) refl
      (content_removed key leaf.places.items (leaf_content map height place leaf tree))
      (each_removed (λ e. IsOffset e.payload) key leaf.places.items (leaf_offsets map height place leaf tree))
      (each_removed (λ e. IsInside place.left place.right (element_key e)) key leaf.places.items
      (recursion_from_All (λ e. IsInside place.left place.right (element_key e)) leaf.places.items tree.fits.bounds))
      (each_removed (IsUpTo leaf.mirror) key leaf.places.items (recursion_from_All (IsUpTo leaf.mirror) leaf.places.items tree.sound.mirror))
      (omega (arith, short, tree.sound.count)) tt (takes_leaf place.left place.right key leaf.mirror inside))
