-- What an edit makes of a node in its page.
use Rattle.std.specs.Prelude.{◌≡◌, ℕ, false, Bool, List, max, slice_set, slice_index_or}
use Rattle.hm_key.specs.declared.element.Element.{Element}
use Rattle.hm_node.specs.Head.{head_in}
use Rattle.hm_node.specs.Inner.{inner_in}
use Rattle.hm_node.specs.Leaf.{leaf_in}
use Rattle.hm_node.specs.Shape.{HoldsNode}
use Rattle.hm_node.specs.declared.head.TheConstants.{LEAF, INNER}
use Rattle.hm_node.specs.declared.inner.Child.{Child}

-- a page holds a leaf
pub record IsLeafPage (page : List ℕ) : Type 0 where
  pub holds : HoldsNode page
  pub kind : (head_in page).kind ≡ LEAF

-- a page holds an inner node
pub record IsInnerPage (page : List ℕ) : Type 0 where
  pub holds : HoldsNode page
  pub kind : (head_in page).kind ≡ INNER

-- a page holds the leaf with this `mirror` and these elements
pub record HoldsLeaf (page : List ℕ) (mirror : ℕ) (es : List Element) : Type 0 where
  pub held : IsLeafPage page
  pub leaf : leaf_in page ≡ record { mirror = mirror; places = record { items = es } }

-- a page holds the leaf that it held, whose element at a place changed and no other, with this `mirror`
pub record ChangesPlace (change : Element → Element) (at up : ℕ) (old new : List ℕ) : Type 0 where
  pub held : IsLeafPage new
  pub mirror : (leaf_in new).mirror ≡ up
  pub items : (d : Element) → (leaf_in new).places.items ≡ slice_set (leaf_in old).places.items at
      (change (slice_index_or (leaf_in old).places.items at d))

-- A page holds the inner node that it held, whose child at a place has this `mirror` now, and whose own is raised to it.
-- It is said whether that changed the page.
pub record SetsMirror (i id : ℕ) (old new : List ℕ) (changed : Bool) : Type 0 where
  pub held : IsInnerPage new
  pub level : (inner_in new).level ≡ (inner_in old).level
  pub mirror : (inner_in new).mirror ≡ max (inner_in old).mirror id
  pub items : (d : Child) → (inner_in new).places.items ≡ slice_set (inner_in old).places.items i
      (record (slice_index_or (inner_in old).places.items i d) { mirror = id })
  pub right : (inner_in new).right ≡ (inner_in old).right
  pub same : changed ≡ false → new ≡ old
