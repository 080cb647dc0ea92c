-- What the calls do that insert an element.
use Rattle.std.specs.Prelude.{◌≡◌, ℕ, true, false, max, List, insert, Option, IfSome, IsNone}
use Rattle.hm_fields.specs.Pages.{PageMap}
use Rattle.hm_key.specs.Elements.{element_at, inserted, last_id}
use Rattle.hm_key.specs.Extents.{Extent}
use Rattle.hm_key.specs.Key.{key_of}
use Rattle.hm_key.specs.declared.base.Base.{Base}
use Rattle.hm_key.specs.declared.element.Element.{Element}
use Rattle.hm_node.specs.Edits.{IsInnerPage, IsLeafPage}
use Rattle.hm_node.specs.Inner.{inner_in, IsBound, IsNodeOffset}
use Rattle.hm_node.specs.Leaf.{leaf_in, HasLeafOrder}
use Rattle.hm_node.specs.Node.{node_in}
use Rattle.hm_node.specs.Shape.{HoldsNode}
use Rattle.hm_node.specs.declared.inner.Child.{Child}
use Rattle.hm_search.specs.Place.{mirror_of}
use Rattle.hm_search.specs.declared.subtree.Subtree.{Subtree}
use Rattle.hm_btree.specs.Calls.Space.{HasKept}
use Rattle.hm_btree.specs.Grow.{Grows, LeafBecomes, InnerBecomes, upper_of}
use Rattle.hm_btree.specs.Marking.{Writes}
use Rattle.hm_btree.specs.Space.{AddsNode}
use Rattle.hm_btree.specs.Tree.{ChangesTree}
use Rattle.hm_btree.specs.declared.upper.Grown.{Grown}

-- the upper part of a node begins at a boundary, and its page holds it
pub record IsUpperPage (page : List ℕ) (at : Base) : Type 0 where
  pub left : IsBound at
  pub holds : HoldsNode page

-- An element was inserted below the node in a page. That page and the upper part's, where there is one, hold nodes, the
-- space tells what it told, and it is said whether the page changed.
pub record InsertsBelow {S : Type 0} (pages_of : S → Option PageMap) (extents_of : S → Option (List Extent)) (element : Element)
    (old new : S) (before after upper : List ℕ) (grown : Grown) : Type 0 where
  pub grows : Grows (inserted element) (key_of element.base) (Writes (last_id element)) (λ o. IsNone o) (pages_of old) (pages_of new)
      (node_in before) (node_in after) (upper_of grown.left upper)
  pub holds : HoldsNode after
  pub above : IfSome grown.left (IsUpperPage upper)
  pub kept : HasKept pages_of extents_of old new
  pub same : grown.changed ≡ false → (after ≡ before) × IsNone grown.left

-- a leaf that shall have these elements has them, or so many of them, and the page of its upper part has the others
pub record SplitsLeaf (mirror : ℕ) (es : List Element) (after upper : List ℕ) (left : Option Base) : Type 0 where
  pub held : IsLeafPage after
  pub becomes : LeafBecomes mirror es (leaf_in after) (upper_of left upper)
  pub above : IfSome left (IsUpperPage upper)

-- the same of an inner node and its children
pub record SplitsInner (level mirror : ℕ) (cs : List Child) (right : Base) (after upper : List ℕ) (left : Option Base) : Type 0 where
  pub held : IsInnerPage after
  pub becomes : InnerBecomes level mirror cs right (inner_in after) (upper_of left upper)
  pub above : IfSome left (IsUpperPage upper)

-- the upper part of a child got a page of its own and was put in before a place of the inner node in a page, at this boundary
pub record AddsBeside {S : Type 0} (pages_of : S → Option PageMap) (extents_of : S → Option (List Extent)) (i : ℕ) (left : Base)
    (old new : S) (before after upper upper' : List ℕ) (grown : Grown) : Type 0 where
  pub at : ℕ
  pub added : AddsNode pages_of extents_of (node_in upper) old new at
  pub splits : SplitsInner (inner_in before).level (max (inner_in before).mirror (mirror_of (node_in upper)))
      (insert (inner_in before).places.items i (record { left = left; child = at; mirror = mirror_of (node_in upper) }))
      (inner_in before).right after upper' grown.left
  pub changed : grown.changed ≡ true

-- an element was inserted into the leaf in a page, where the leaf was in order
pub record InsertsInLeaf (element : Element) (before after upper : List ℕ) (left : Option Base) : Type 0 where
  pub held : IsLeafPage after
  pub becomes : HasLeafOrder (leaf_in before)
      → LeafBecomes (max (leaf_in before).mirror (last_id element)) (inserted element (leaf_in before).places.items) (leaf_in after) (upper_of left upper)
  pub above : IfSome left (IsUpperPage upper)

-- an element was inserted into the tree from a root on, which then has this root, and the space tells what it told
pub record InsertsFrom {S : Type 0} (pages_of : S → Option PageMap) (extents_of : S → Option (List Extent)) (element : Element)
    (old new : S) (root root' : ℕ) : Type 0 where
  pub tree : ChangesTree (inserted element) (key_of element.base) (Writes (last_id element)) (λ es. IsNone (element_at (key_of element.base) es))
      (pages_of old) (pages_of new) root root'
  pub kept : HasKept pages_of extents_of old new

-- A root may come above the node in a page that stands at this place and its upper part: one may stand there, the
-- boundaries are such, and both pages hold nodes.
pub record CanTop (place : Subtree) (lower : List ℕ) (left : Base) (upper : List ℕ) : Type 0 where
  pub at : IsNodeOffset place.at
  pub bounds : IsBound place.left × IsBound place.right
  pub lower_holds : HoldsNode lower
  pub above : IsUpperPage upper left
