-- Nodes: which rules one keeps that can be told from it alone, and which page spells it.
use Rattle.std.specs.Prelude.{◌≡◌, ℕ, ◌+◌, ◌<◌, ◌==◌, if◌then◌else◌, List, length, ⊤}
use Rattle.arrayvec.specs.ArrayVec.{array_vec_len}
use Rattle.hm_types.specs.declared.limits.TheConstants.{PAGE_BYTES}
use Rattle.hm_node.specs.Head.{head_in}
use Rattle.hm_node.specs.Places.{place, IsZero, IsZeroOutside}
use Rattle.hm_node.specs.Leaf.{leaf_in, HasLeafCount, HasLeafOrder, HasLeafFields, HasLeafMirror}
use Rattle.hm_node.specs.Inner.{inner_in, HasInnerLevel, HasInnerCount, HasInnerOrder, HasInnerFields, HasInnerMirror}
use Rattle.hm_node.specs.declared.head.TheConstants.{LEAF, INNER, LEAF_LEVEL}
use Rattle.hm_node.specs.declared.node.Node.{Node}
use Rattle.hm_node.specs.declared.node.Node.TheVariants.{Leaf, Inner}

-- the number that says of which kind a node is
abbrev pub kind_of : Node → ℕ
kind_of (Leaf leaf) = LEAF
kind_of (Inner inner) = INNER

-- a leaf has level 1, and an inner node one more than its children
abbrev pub level_of : Node → ℕ
level_of (Leaf leaf) = LEAF_LEVEL
level_of (Inner inner) = inner.level

-- the elements or children of a node
abbrev pub count_of : Node → ℕ
count_of (Leaf leaf) = array_vec_len leaf.places
count_of (Inner inner) = array_vec_len inner.places

-- how many bytes of each place have a meaning: a base, an offset, and a length or a `mirror`
abbrev pub place_width : Node → ℕ
place_width (Leaf leaf) = 52
place_width (Inner inner) = 56

-- the first byte after all that have a meaning: an inner node's right boundary is the last
abbrev pub end_of : Node → ℕ
end_of (Leaf leaf) = place (array_vec_len leaf.places)
end_of (Inner inner) = place (array_vec_len inner.places) + 40

-- the node in a page, whether or not it keeps any rule
abbrev pub node_in : List ℕ → Node
node_in page = if (head_in page).kind == LEAF then Leaf (leaf_in page) else Inner (inner_in page)

-- the level is one of the node's kind
abbrev pub HasLevel : Node → Type 0
HasLevel (Leaf leaf) = ⊤
HasLevel (Inner inner) = HasInnerLevel inner

-- It has no more places than fit in a page, and an inner node has one. The root alone may be a leaf with no
-- element, or an inner node with fewer than 16 children; which node is the root is not known here.
abbrev pub HasCount : Node → Type 0
HasCount (Leaf leaf) = HasLeafCount leaf
HasCount (Inner inner) = HasInnerCount inner

-- its elements or boundaries are in strictly rising order
abbrev pub HasOrder : Node → Type 0
HasOrder (Leaf leaf) = HasLeafOrder leaf
HasOrder (Inner inner) = HasInnerOrder inner

-- each field has a value that may stand there
abbrev pub HasFields : Node → Type 0
HasFields (Leaf leaf) = HasLeafFields leaf
HasFields (Inner inner) = HasInnerFields inner

-- its `mirror` is at least each id of its elements, or each `mirror` of its children
abbrev pub HasMirror : Node → Type 0
HasMirror (Leaf leaf) = HasLeafMirror leaf
HasMirror (Inner inner) = HasInnerMirror inner

-- A node that keeps each rule that can be told from it alone. That its elements or boundaries lie within the
-- boundaries that its parent has for it, that its level is its parent's less 1, and that its `mirror` is the
-- one that its parent has for it, is told by the crate that descends from the root.
pub record IsNode (node : Node) : Type 0 where
  pub level : HasLevel node
  pub count : HasCount node
  pub order : HasOrder node
  pub fields : HasFields node
  pub mirror : HasMirror node

-- the page says that it holds a node of this kind and level
pub record SaysLevel (page : List ℕ) (node : Node) : Type 0 where
  pub kind : (head_in page).kind ≡ kind_of node
  pub level : (head_in page).level ≡ level_of node

-- each byte without a meaning is 0: those outside the places, and the end of each place
pub record HasZeros (page : List ℕ) (node : Node) : Type 0 where
  pub outside : IsZeroOutside page (end_of node)
  pub places : (i : ℕ) → i < count_of node → IsZero page (place i + place_width node) (place i + 64)

-- A page spells a node: it is the node in the page, of the kind that the page says, and every byte without
-- a meaning is 0. So a page spells one node at most, and a node is spelled by one page.
pub record Spells (page : List ℕ) (node : Node) : Type 0 where
  pub sized : length page ≡ PAGE_BYTES
  pub says : SaysLevel page node
  pub value : node_in page ≡ node
  pub zeros : HasZeros page node
