-- Inner nodes: how one stands in a page, and which rules it keeps.
use Rattle.std.specs.Prelude.{◌≡◌, ℕ, ◌+◌, ◌%◌, ◌≤◌, ◌<◌, List, [], ◌∷◌, ◌++◌, map, All}
use Rattle.std.specs.List.Sorted.{IsStrictlySortedBy}
use Rattle.arrayvec.specs.ArrayVec.{array_vec_len}
use Rattle.hm_types.specs.Offset.{byte_of, zone_of, IsOffset}
use Rattle.hm_types.specs.declared.limits.TheConstants.{PAGE_BYTES, MOST_INNER_CHILDREN, MOST_LEVELS}
use Rattle.hm_fields.specs.Fields.{get}
use Rattle.hm_key.specs.Key.{key_of, IsBoundary}
use Rattle.hm_key.specs.declared.base.Base.{Base}
use Rattle.hm_types.specs.declared.zone.TheConstants.{TREE_ZONE}
use Rattle.hm_node.specs.Base.{base_in, base_cmp}
use Rattle.hm_node.specs.Head.{head_in}
use Rattle.hm_node.specs.Places.{place, first, bases_in, IsZero, IsZeroOutside}
use Rattle.hm_node.specs.declared.inner.Child.{Child}
use Rattle.hm_node.specs.declared.inner.Inner.{Inner}

-- the child in the place that begins at `at`
unfoldable pub child_in : List ℕ → ℕ → Child
child_in page at = record {
  left = base_in page at;
  child = get page (at + 40) 8;
  mirror = get page (at + 48) 8;
}

-- the children of the first places, so many of them
abbrev pub first_children : List ℕ → ℕ → List Child
first_children page n = first (λ i. child_in page (place i)) n

-- the inner node in a page that is one's: its right boundary stands in the place after its children
abbrev pub inner_in : List ℕ → Inner
inner_in page = record {
  level = (head_in page).level;
  mirror = (head_in page).mirror;
  places = record { items = first_children page (head_in page).count };
  right = base_in page (place (head_in page).count);
}

-- the left boundary of each child, and the right one of the last
abbrev pub boundaries : Inner → List Base
boundaries inner = map (λ (c : Child). c.left) inner.places.items ++ inner.right ∷ []

-- a base that is a boundary, at its own key
abbrev pub IsBound : Base → Type 0
IsBound base = IsBoundary base (key_of base)

-- an offset at which a node may stand
pub record IsNodeOffset (at : ℕ) : Type 0 where
  pub offset : IsOffset at
  pub zone : zone_of at ≡ TREE_ZONE
  pub aligned : byte_of at % PAGE_BYTES ≡ 0

-- a child whose left boundary and offset may stand in an inner node
pub record IsChild (c : Child) : Type 0 where
  pub left : IsBound c.left
  pub child : IsNodeOffset c.child

-- inner nodes stand above the leaves
abbrev pub HasInnerLevel : Inner → Type 0
HasInnerLevel inner = (2 ≤ inner.level) × (inner.level ≤ MOST_LEVELS)

-- one child at least, and no more than there are places beside the right boundary
abbrev pub HasInnerCount : Inner → Type 0
HasInnerCount inner = (1 ≤ array_vec_len inner.places) × (array_vec_len inner.places ≤ MOST_INNER_CHILDREN)

-- each boundary stands after the one before it, and the right one after them all
abbrev pub HasInnerOrder : Inner → Type 0
HasInnerOrder inner = IsStrictlySortedBy base_cmp (boundaries inner)

-- each field has a value that may stand there
pub record HasInnerFields (inner : Inner) : Type 0 where
  pub children : All IsChild inner.places.items
  pub right : IsBound inner.right

-- no child's `mirror` is above that of the node
abbrev pub HasInnerMirror : Inner → Type 0
HasInnerMirror inner = All (λ c. c.mirror ≤ inner.mirror) inner.places.items

-- a place with a child that may stand in an inner node, and zero after it
pub record IsChildPlace (page : List ℕ) (at : ℕ) : Type 0 where
  pub child : IsChild (child_in page at)
  pub zero : IsZero page (at + 56) (at + 64)

-- so many places are such places
abbrev pub AreChildPlaces : List ℕ → ℕ → Type 0
AreChildPlaces page count = (i : ℕ) → i < count → IsChildPlace page (place i)

-- a page with so many places of an inner node and its right boundary, which keep their order and their fields
pub record AreInnerPlaces (page : List ℕ) (count : ℕ) : Type 0 where
  pub rising : IsStrictlySortedBy base_cmp (bases_in page (count + 1))
  pub right : IsBound (base_in page (place count))
  pub places : AreChildPlaces page count
  pub outside : IsZeroOutside page (place count + 40)
