-- Leaves: how one stands in a page, and which rules it keeps.
use Rattle.std.specs.Prelude.{ℕ, ◌+◌, ◌≤◌, ◌<◌, List, All}
use Rattle.std.specs.List.Sorted.{IsStrictlySortedBy}
use Rattle.arrayvec.specs.ArrayVec.{array_vec_len}
use Rattle.hm_types.specs.Offset.{IsOffset}
use Rattle.hm_types.specs.declared.limits.TheConstants.{MOST_LEAF_ELEMENTS}
use Rattle.hm_fields.specs.Fields.{get}
use Rattle.hm_key.specs.Element.{IsElement}
use Rattle.hm_key.specs.Elements.{element_cmp}
use Rattle.hm_key.specs.declared.element.Element.{Element}
use Rattle.hm_node.specs.Base.{base_in, base_cmp}
use Rattle.hm_node.specs.Head.{head_in}
use Rattle.hm_node.specs.Places.{place, first, bases_in, IsZero, IsZeroOutside}
use Rattle.hm_node.specs.declared.leaf.Leaf.{Leaf}

-- the element in the place that begins at `at`
unfoldable pub element_in : List ℕ → ℕ → Element
element_in page at = record {
  base = base_in page at;
  payload = get page (at + 40) 8;
  len = get page (at + 48) 4;
}

-- the elements of the first places, so many of them
abbrev pub first_elements : List ℕ → ℕ → List Element
first_elements page n = first (λ i. element_in page (place i)) n

-- the leaf in a page that is one's
abbrev pub leaf_in : List ℕ → Leaf
leaf_in page = record {
  mirror = (head_in page).mirror;
  places = record { items = first_elements page (head_in page).count };
}

-- an element that may stand in a leaf, with an offset for its payload
pub record IsPlaced (e : Element) : Type 0 where
  pub element : IsElement e
  pub payload : IsOffset e.payload

-- an element that changed in no later call than the one with this id
pub record IsUpTo (mirror : ℕ) (e : Element) : Type 0 where
  pub create : e.base.create ≤ mirror
  pub delete : e.base.delete ≤ mirror

-- no more elements than a leaf has places
abbrev pub HasLeafCount : Leaf → Type 0
HasLeafCount leaf = array_vec_len leaf.places ≤ MOST_LEAF_ELEMENTS

-- each element stands after the one before it
abbrev pub HasLeafOrder : Leaf → Type 0
HasLeafOrder leaf = IsStrictlySortedBy element_cmp leaf.places.items

-- each field has a value that may stand there
abbrev pub HasLeafFields : Leaf → Type 0
HasLeafFields leaf = All IsPlaced leaf.places.items

-- no id is above `mirror`
abbrev pub HasLeafMirror : Leaf → Type 0
HasLeafMirror leaf = All (IsUpTo leaf.mirror) leaf.places.items

-- a place with an element that may stand in a leaf, and zero after it
pub record IsElementPlace (page : List ℕ) (at : ℕ) : Type 0 where
  pub placed : IsPlaced (element_in page at)
  pub zero : IsZero page (at + 52) (at + 64)

-- so many places are such places
abbrev pub ArePlaces : List ℕ → ℕ → Type 0
ArePlaces page count = (i : ℕ) → i < count → IsElementPlace page (place i)

-- a page with so many places of a leaf, which keep their order and their fields
pub record AreLeafPlaces (page : List ℕ) (count : ℕ) : Type 0 where
  pub rising : IsStrictlySortedBy base_cmp (bases_in page count)
  pub places : ArePlaces page count
  pub outside : IsZeroOutside page (place count)
