-- What the calls ask and do that remove an element.
use Rattle.std.specs.Prelude.{◌≡◌, ℕ, Bool, true, false, ◌+◌, ◌<◌, ◌≤◌, List, remove, Option, Some, IfSome, IsSome, is_some, slice_get}
use Rattle.arrayvec.specs.ArrayVec.{array_vec_len}
use Rattle.hm_types.specs.Elements.{Key}
use Rattle.hm_fields.specs.Pages.{PageMap}
use Rattle.hm_key.specs.Elements.{element_at, removed}
use Rattle.hm_key.specs.Extents.{Extent}
use Rattle.hm_key.specs.Places.{leading}
use Rattle.hm_node.specs.Edits.{IsInnerPage, IsLeafPage}
use Rattle.hm_node.specs.Head.{head_in}
use Rattle.hm_node.specs.Inner.{inner_in, IsNodeOffset}
use Rattle.hm_node.specs.Leaf.{leaf_in, HasLeafOrder}
use Rattle.hm_node.specs.Node.{level_of, node_in}
use Rattle.hm_node.specs.Shape.{HoldsNode}
use Rattle.hm_node.specs.declared.inner.Inner.{Inner}
use Rattle.hm_node.specs.declared.node.Node.{Node}
use Rattle.hm_node.specs.declared.node.Node.TheVariants.{Inner as inner_node}
use Rattle.hm_search.specs.Descent.{PassesHere}
use Rattle.hm_search.specs.Place.{FitsLevel}
use Rattle.hm_search.specs.Tree.{node_at, children_of}
use Rattle.hm_search.specs.declared.subtree.Subtree.{Subtree}
use Rattle.hm_btree.specs.Calls.Space.{HasKept}
use Rattle.hm_btree.specs.Edits.{leaf_of}
use Rattle.hm_btree.specs.Marking.{TakesOut}
use Rattle.hm_btree.specs.Shape.{IsShaped, IsShapedLike}
use Rattle.hm_btree.specs.Shrink.{Shrinks, HasNeighbours, IsJoinedAt, IsLevelBelow, IsLowered, IsPairJoined}
use Rattle.hm_btree.specs.Tree.{ChangesTree, IsTreeSpace}

-- the element at a key was removed below the node in a page, which holds a node of the same level, the space tells what it
-- told, and it is said whether the page changed
pub record RemovesBelow {S : Type 0} (pages_of : S → Option PageMap) (extents_of : S → Option (List Extent)) (key : Key)
    (old new : S) (before after : List ℕ) (changed : Bool) : Type 0 where
  pub shrinks : Shrinks (removed key) key TakesOut (λ o. IsSome o) (pages_of old) (pages_of new) (node_in before) (node_in after)
  pub holds : HoldsNode after
  pub level : level_of (node_in after) ≡ level_of (node_in before)
  pub kept : HasKept pages_of extents_of old new
  pub same : changed ≡ false → after ≡ before

-- an element was taken out of the leaf in a page: if the leaf is in order the one at a key, which stood there
pub record RemovesAt (key : Key) (before after : List ℕ) : Type 0 where
  pub at : ℕ
  pub place : HasLeafOrder (leaf_in before) → at ≡ leading key (leaf_in before).places.items
  pub there : HasLeafOrder (leaf_in before) → IsSome (element_at key (leaf_in before).places.items)
  pub leaf : leaf_in after ≡ leaf_of (leaf_in before).mirror (remove (leaf_in before).places.items at)

-- The element at a key was taken out of the leaf in a page, if one stands there, and it is said whether one did: for
-- certain where the leaf is in order.
pub record RemovesInLeaf (key : Key) (before after : List ℕ) (changed : Bool) : Type 0 where
  pub held : IsLeafPage after
  pub some : changed ≡ true → RemovesAt key before after
  pub none : changed ≡ false → HasLeafOrder (leaf_in before) → is_some (element_at key (leaf_in before).places.items) ≡ false
  pub same : changed ≡ false → after ≡ before

-- a node that was visited at a place: it has the shape of one and the level of the place, and stands so where the pages
-- are told
pub record IsVisited (place : Subtree) (told : Option PageMap) (node : Node) : Type 0 where
  pub shape : IsShaped node
  pub level : FitsLevel place.parent node
  pub here : IfSome told (λ map. PassesHere map place node)

-- an inner node with its shape has a child at a place, and one beside it
pub record HasPair (inner : Inner) (i : ℕ) : Type 0 where
  pub shape : IsShaped (inner_node inner)
  pub within : i < array_vec_len inner.places
  pub many : 2 ≤ array_vec_len inner.places

-- the child at a place was joined with a neighbour, the inner node has its shape and its level, and the space tells
-- what it told
pub record JoinsChild {S : Type 0} (pages_of : S → Option PageMap) (extents_of : S → Option (List Extent)) (i : ℕ) (child : Node)
    (old new : S) (before after : Inner) : Type 0 where
  pub joined : IfSome (pages_of old) (λ was. IfSome (pages_of new) (λ is. IsJoinedAt before i child was is after))
  pub shape : IsShapedLike (inner_node before) (inner_node after)
  pub kept : HasKept pages_of extents_of old new

-- the child at a place of the inner node in a page may be joined with one beside it: its page holds a node of the level below
pub record MayRejoin (page : List ℕ) (i : ℕ) (child : List ℕ) : Type 0 where
  pub inner : IsInnerPage page
  pub pair : HasPair (inner_in page) i
  pub holds : HoldsNode child
  pub level : level_of (node_in child) + 1 ≡ (inner_in page).level

-- it was joined, and the page holds the inner node that this made
pub record RejoinsIn {S : Type 0} (pages_of : S → Option PageMap) (extents_of : S → Option (List Extent)) (i : ℕ) (child : List ℕ)
    (old new : S) (before after : List ℕ) : Type 0 where
  pub held : IsInnerPage after
  pub joins : JoinsChild pages_of extents_of i (node_in child) old new (inner_in before) (inner_in after)

-- an inner node with its shape has a child at a place and one after it, and these nodes may stand there
pub record IsPair (inner : Inner) (i : ℕ) (left right : Node) : Type 0 where
  pub shape : IsShaped (inner_node inner)
  pub within : i + 1 < array_vec_len inner.places
  pub left_fits : IsLevelBelow inner.level left
  pub right_fits : IsLevelBelow inner.level right

-- two neighbours whose nodes are these were joined, the inner node has its shape and its level, and the space tells
-- what it told
pub record JoinsPair {S : Type 0} (pages_of : S → Option PageMap) (extents_of : S → Option (List Extent)) (i : ℕ) (left right : Node)
    (old new : S) (before after : Inner) : Type 0 where
  pub joined : IfSome (pages_of old) (λ was. IfSome (pages_of new) (λ is. IsPairJoined before i left right was is after))
  pub shape : IsShapedLike (inner_node before) (inner_node after)
  pub kept : HasKept pages_of extents_of old new

-- the page of a root was read, and the pages, where they are told, are the tree from it on
pub record IsRoot (told : Option PageMap) (root : ℕ) (page : List ℕ) : Type 0 where
  pub at : IsNodeOffset root
  pub holds : HoldsNode page
  pub tree : IfSome told (λ was. IsTreeSpace was root)
  pub here : IfSome told (λ was. node_at was root ≡ node_in page)

-- this is what is below the one child of the inner node in a page
pub record IsOnlyBelow (page : List ℕ) (below : Subtree) : Type 0 where
  pub inner : IsInnerPage page
  pub one : (head_in page).count ≡ 1
  pub at : slice_get (children_of (inner_in page)) 0 ≡ Some below

-- the same tree stands from a root with two children on, or from a leaf, whose page this is, and the space tells what it
-- told
pub record FindsLowest {S : Type 0} (pages_of : S → Option PageMap) (extents_of : S → Option (List Extent)) (root : ℕ) (page : List ℕ)
    (old new : S) (found : ℕ) : Type 0 where
  pub lowered : IfSome (pages_of old) (λ was. IfSome (pages_of new) (λ is. IsLowered was is root found (node_in page)))
  pub stands : IsNodeOffset found × HoldsNode page × HasNeighbours (node_in page)
  pub kept : HasKept pages_of extents_of old new

-- the element at a key was removed from the tree from a root on, which then has this root, and the space tells what it
-- told
pub record RemovesFrom {S : Type 0} (pages_of : S → Option PageMap) (extents_of : S → Option (List Extent)) (key : Key)
    (old new : S) (root root' : ℕ) : Type 0 where
  pub tree : ChangesTree (removed key) key TakesOut (λ es. IsSome (element_at key es)) (pages_of old) (pages_of new) root root'
  pub kept : HasKept pages_of extents_of old new
