-- What the calls of a store keep, and what they change. A store's members come as functions of it.
use Rattle.std.specs.Prelude.{◌≡◌, ℕ, List, Option, Result, is_some, option_map, IfSome, OnOk}
use Rattle.hm_types.specs.Elements.{Key}
use Rattle.hm_types.specs.Told.{BothTell}
use Rattle.hm_key.specs.Key.{key_of, IsBefore, IsFrom, IsBoundary}
use Rattle.hm_key.specs.Element.{IsElement}
use Rattle.hm_key.specs.Elements.{element_key}
use Rattle.hm_key.specs.Extents.{Extent}
use Rattle.hm_key.specs.declared.base.Base.{Base}
use Rattle.hm_key.specs.declared.element.Element.{Element}

-- A call that succeeds leaves whether a store tells its elements and its extents. After an error nothing is known
-- of these, also not whether they are told.
pub record Keeps {S A E : Type 0} (elements_of : S → Option (List Element)) (extents_of : S → Option (List Extent)) (old new : S) (result : Result A E) : Type
    0 where
  pub elements : OnOk result (is_some (elements_of new) ≡ is_some (elements_of old))
  pub extents : OnOk result (is_some (extents_of new) ≡ is_some (extents_of old))

-- a call leaves a store as it was
pub record Same {S : Type 0} (elements_of : S → Option (List Element)) (mark_of : S → Key → ℕ) (extents_of : S → Option (List Extent)) (room_of : S → ℕ → ℕ)
    (free_of : S → ℕ) (old new : S) : Type 0 where
  pub elements : elements_of new ≡ elements_of old
  pub mark : mark_of new ≡ mark_of old
  pub extents : extents_of new ≡ extents_of old
  pub room : room_of new ≡ room_of old
  pub free : free_of new ≡ free_of old

-- a call leaves all that a store tells of its content
pub record SameContent {S : Type 0} (elements_of : S → Option (List Element)) (mark_of : S → Key → ℕ) (extents_of : S → Option (List Extent)) (old new : S) :
    Type 0 where
  pub elements : elements_of new ≡ elements_of old
  pub mark : mark_of new ≡ mark_of old
  pub extents : extents_of new ≡ extents_of old

-- the list of elements changed just so, the marks in this way, and the extents stayed
pub record ElementsChange {S : Type 0} (elements_of : S → Option (List Element)) (mark_of : S → Key → ℕ) (extents_of : S → Option (List Extent))
    (change : List Element → List Element) (Marked : (Key → ℕ) → (Key → ℕ) → Type 0) (old new : S) : Type 0 where
  pub elements : elements_of new ≡ option_map change (elements_of old)
  pub mark : IfSome (elements_of old) (λ _. Marked (mark_of old) (mark_of new))
  pub extents : extents_of new ≡ extents_of old

-- the list of extents changed in this way, and the elements and their marks stayed
pub record ExtentsChange {S : Type 0} (elements_of : S → Option (List Element)) (mark_of : S → Key → ℕ) (extents_of : S → Option (List Extent))
    (Change : List Extent → List Extent → Type 0) (old new : S) : Type 0 where
  pub elements : elements_of new ≡ elements_of old
  pub mark : mark_of new ≡ mark_of old
  pub extents : BothTell (extents_of old) (extents_of new) Change

-- an element that a search from the key on may give
pub record IsFound (at : Key) (e : Element) : Type 0 where
  pub element : IsElement e
  pub place : IsFrom at (element_key e)

-- an element that a search up to the key may give
pub record IsFoundTo (at : Key) (e : Element) : Type 0 where
  pub element : IsElement e
  pub place : IsFrom (element_key e) at

-- a boundary after the key
pub record IsEnd (at : Key) (end : Base) : Type 0 where
  pub boundary : IsBoundary end (key_of end)
  pub after : IsBefore at (key_of end)
