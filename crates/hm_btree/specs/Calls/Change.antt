-- What the calls do that change an element where it stands.
use Rattle.std.specs.Prelude.{◌≡◌, ℕ, Bool, true, false, max, List, Option, IsSome, is_some}
use Rattle.hm_types.specs.Elements.{Key}
use Rattle.hm_fields.specs.Pages.{PageMap}
use Rattle.hm_key.specs.Elements.{element_at}
use Rattle.hm_key.specs.Places.{leading}
use Rattle.hm_node.specs.Edits.{ChangesPlace, IsLeafPage}
use Rattle.hm_node.specs.Leaf.{leaf_in, HasLeafOrder}
use Rattle.hm_node.specs.Node.{node_in}
use Rattle.hm_node.specs.Shape.{HoldsNode}
use Rattle.hm_btree.specs.Below.{Works}
use Rattle.hm_btree.specs.Change.{change_of, id_of, marking_of, with_change}
use Rattle.hm_btree.specs.Tree.{ChangesTree}
use Rattle.hm_btree.specs.declared.change.Change.{Change}

-- the element at a key below the node in a page changed, the page holds a node, pages are told where they were, and it is
-- said whether the page changed
pub record ChangesBelow (key : Key) (change : Change) (old new : Option PageMap) (before after : List ℕ) (changed : Bool) : Type 0 where
  pub works : Works (with_change key change) key (marking_of change) (λ o. IsSome o) old new (node_in before) (node_in after)
  pub holds : HoldsNode after
  pub told : is_some new ≡ is_some old
  pub same : changed ≡ false → after ≡ before

-- the element at a place of the leaf in a page changed, where that is the place of the key if the leaf is in order
pub record ChangesAt (key : Key) (change : Change) (before after : List ℕ) : Type 0 where
  pub at : ℕ
  pub place : HasLeafOrder (leaf_in before) → at ≡ leading key (leaf_in before).places.items
  pub changes : ChangesPlace (change_of change) at (max (leaf_in before).mirror (id_of change)) before after

-- The element at a key of the leaf in a page changed, if one stands there, and it is said whether one does: for certain
-- where the leaf is in order.
pub record ChangesInLeaf (key : Key) (change : Change) (before after : List ℕ) (changed : Bool) : Type 0 where
  pub held : IsLeafPage after
  pub some : changed ≡ true → ChangesAt key change before after
  pub none : changed ≡ false → HasLeafOrder (leaf_in before) → is_some (element_at key (leaf_in before).places.items) ≡ false
  pub same : changed ≡ false → after ≡ before

-- the element at a key of the tree from a root on changed, and pages are told where they were
pub record ChangesElement (key : Key) (change : Change) (root : ℕ) (old new : Option PageMap) : Type 0 where
  pub tree : ChangesTree (with_change key change) key (marking_of change) (λ es. IsSome (element_at key es)) old new root root
  pub told : is_some new ≡ is_some old
