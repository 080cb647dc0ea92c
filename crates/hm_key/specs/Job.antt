-- What a unit of a job answers, and what it must have done to answer so.
use Rattle.std.specs.Prelude.{◌≡◌, ◌≢◌, ◌⊎◌, ℕ, ◌<◌, List, Option, Some, IfSome, IsSomeAnd, OnSome}
use Rattle.hm_types.specs.Elements.{Key}
use Rattle.hm_key.specs.Elements.{element_at, element_key}
use Rattle.hm_key.specs.Extents.{Extent}
use Rattle.hm_key.specs.Key.{IsBefore}
use Rattle.hm_key.specs.Marks.{MarksStay}
use Rattle.hm_key.specs.declared.element.Element.{Element}
use Rattle.hm_key.specs.declared.job.Progress.{Progress}
use Rattle.hm_key.specs.declared.job.Progress.TheVariants.{More, Done}

-- one fact holds after More, and another one after Done
abbrev pub IfProgress : Type 0 → Type 0 → Progress → Type 0
IfProgress Goes Ends More = Goes
IfProgress Goes Ends Done = Ends

-- how far a job came: the number of its walk through the elements, and the key to which that came
pub record Place : Type 0 where
  pub walk : ℕ
  pub at : Key

-- a job came further: to a later key in the same walk, or to a later walk
abbrev pub ComesFurther : Place → Place → Type 0
ComesFurther old new = (old.walk < new.walk) ⊎ ((old.walk ≡ new.walk) × IsBefore old.at new.at)

-- an element went, or its payload stands elsewhere
pub record HasTouched (old new : List Element) : Type 0 where
  pub element : Element
  pub there : element_at (element_key element) old ≡ Some element
  pub touched : IfSome (element_at (element_key element) new) (λ e. e.payload ≢ element.payload)

-- There is more to do only where the unit did something: it came further or, as far as elements are told, an element
-- went or was moved.
abbrev pub HasMoreCause : Place → Place → Option (List Element) → Option (List Element) → Progress → Type 0
HasMoreCause from to old new =
    IfProgress (ComesFurther from to ⊎ IfSome old (λ es. IsSomeAnd new (HasTouched es))) (Unit {0})

-- two stores tell the same content and the same marks, and have the same room
pub record TellSame {S : Type 0} (elements_of : S → Option (List Element)) (mark_of : S → Key → ℕ) (extents_of : S → Option (List Extent)) (room_of : S → ℕ → ℕ)
    (one other : S) : Type 0 where
  pub elements : elements_of other ≡ elements_of one
  pub marks : OnSome (elements_of one) (MarksStay (mark_of one) (mark_of other))
  pub extents : extents_of other ≡ extents_of one
  pub room : (zone : ℕ) → room_of other zone ≡ room_of one zone
