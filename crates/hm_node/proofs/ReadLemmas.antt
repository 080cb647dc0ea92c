-- What was read from a place, and whether it may stand there.
use Rattle.std.proofs.Common.{◌≡◌, ℕ, ◌+◌, List, sym, subst, ◌∙◌}
use Rattle.hm_types.specs.Offset.{IsOffset}
use Rattle.hm_fields.specs.Fields.{get}
use Rattle.hm_key.specs.Element.{IsElement}
use Rattle.hm_key.specs.declared.element.Element.{Element}
use Rattle.hm_node.specs.Places.{IsZero}
use Rattle.hm_node.specs.Leaf.{element_in, IsPlaced, IsElementPlace}
use Rattle.hm_node.specs.Inner.{child_in, IsChild, IsChildPlace}
use Rattle.hm_node.specs.declared.inner.Child.{Child}
use Rattle.hm_node.proofs.FieldLemmas.{element_payload, child_offset}

-- an element that passed its test may stand in its place
pub element_stands : (page : List ℕ) (at : ℕ) (e : Element) → e ≡ element_in page at → IsOffset e.payload
    → IsElement e × IsZero page (at + 52) (at + 64) → IsElementPlace page at
element_stands page at e is offset sound = record {
  placed = subst IsPlaced is (record { element = sound.0; payload = offset });
  zero = sound.1;
}

-- an element that may stand in its place passes its test
pub element_passes : (page : List ℕ) (at : ℕ) (e : Element) → e ≡ element_in page at → IsElementPlace page at → IsElement e × IsZero page (at + 52) (at + 64)
element_passes page at e is place = (subst IsElement (sym is) place.placed.element, place.zero)

-- the payload of an element that may stand in its place has an offset
pub element_offset : (page : List ℕ) (at raw : ℕ) → raw ≡ get page (at + 40) 8 → IsElementPlace page at → IsOffset raw
element_offset page at raw is place = subst IsOffset (element_payload page at ∙ sym is) place.placed.payload

-- the same of a child
pub child_stands : (page : List ℕ) (at : ℕ) (c : Child) → c ≡ child_in page at → IsChild c × IsZero page (at + 56) (at + 64) → IsChildPlace page at
child_stands page at c is sound = record { child = subst IsChild is sound.0; zero = sound.1 }

pub child_passes : (page : List ℕ) (at : ℕ) (c : Child) → c ≡ child_in page at → IsChildPlace page at → IsChild c × IsZero page (at + 56) (at + 64)
child_passes page at c is place = (subst IsChild (sym is) place.child, place.zero)

pub child_has_offset : (page : List ℕ) (at raw : ℕ) → raw ≡ get page (at + 40) 8 → IsChildPlace page at → IsOffset raw
child_has_offset page at raw is place = subst IsOffset (child_offset page at ∙ sym is) place.child.child.offset
