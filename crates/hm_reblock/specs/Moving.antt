-- What moves of a store: one extent, with elements that refer to it.
use Rattle.std.specs.Prelude.{◌≡◌, ◌≢◌, ℕ, ◌+◌, ◌<◌, ◌≤◌, nat_eq, false, List, [], ◌∷◌, Option, None, IfSome, IsSomeAnd, OnSome, is_some, option_map, slice_get}
use Rattle.hm_types.specs.Elements.{Key}
use Rattle.hm_types.specs.Offset.{zone_of}
use Rattle.hm_key.specs.Balance.{IsBalanced, content_of, full_elements, payload_of}
use Rattle.hm_key.specs.Elements.{element_at, element_key, moved_to, with_payload}
use Rattle.hm_key.specs.Extents.{Extent, extent_at, given_back_at}
use Rattle.hm_key.specs.Marks.{MarksStay}
use Rattle.hm_key.specs.Moves.{GainsReference}
use Rattle.hm_key.specs.declared.element.Element.{Element}

-- some elements whose payload stands at one offset have it at another one, and all else of the list is as before
pub data MovesTo (from to : ℕ) : List Element → List Element → Type 0 where
  none : MovesTo from to [] []
  stay : {e : Element} {es fs : List Element} → MovesTo from to es fs → MovesTo from to (e ∷ es) (e ∷ fs)
  move : {e : Element} {es fs : List Element} → e.payload ≡ from → MovesTo from to es fs → MovesTo from to (e ∷ es) (moved_to to e ∷ fs)

-- two extents have the same bytes, and together so many references at most
pub record IsTwin (most : ℕ) (x y : Extent) : Type 0 where
  pub len : y.len ≡ x.len
  pub bytes : y.bytes ≡ x.bytes
  pub few : x.refs + y.refs ≤ most

-- at another offset stands a twin of the extent at an offset, if that is one still
pub record AreTwins (most from to : ℕ) (xs : List Extent) : Type 0 where
  pub apart : nat_eq to from ≡ false
  pub twin : IfSome (extent_at from xs) (λ x. IsSomeAnd (extent_at to xs) (IsTwin most x))

-- a place of the same zone, where no extent stood
pub record IsFreshPlace (extents : Option (List Extent)) (from to : ℕ) : Type 0 where
  pub zone : zone_of to ≡ zone_of from
  pub apart : IfSome extents (λ xs. extent_at to xs ≡ None)

-- A balanced content of which elements moved from one extent to another, with their references: it is balanced, each
-- element has its payload, and all other extents are as before.
pub record HasMovedTo (from to : ℕ) (was now : List Element × List Extent) : Type 0 where
  pub balanced : IsBalanced now.0 now.1
  pub full : full_elements now.0 now.1 ≡ full_elements was.0 was.1
  pub elements : MovesTo from to was.0 now.0
  pub others : (at : ℕ) → nat_eq at from ≡ false → nat_eq at to ≡ false → extent_at at now.1 ≡ extent_at at was.1
  pub twins : AreTwins 64 from to now.1

-- so where a store told such a content; no mark changed
pub record Relocates {S : Type 0} (elements_of : S → Option (List Element)) (mark_of : S → Key → ℕ) (extents_of : S → Option (List Extent))
    (from to : ℕ) (old new : S) : Type 0 where
  pub content : IfSome (content_of (elements_of old) (extents_of old)) (λ was. IsBalanced was.0 was.1
      → IsSomeAnd (content_of (elements_of new) (extents_of new)) (HasMovedTo from to was))
  pub elements : is_some (elements_of new) ≡ is_some (elements_of old)
  pub extents : is_some (extents_of new) ≡ is_some (extents_of old)
  pub marks : OnSome (elements_of old) (MarksStay (mark_of old) (mark_of new))

-- a reference came to a twin of an element's extent, to which the element may move
pub record IsCopy (e : Element) (to : ℕ) (xs ys : List Extent) : Type 0 where
  pub gains : GainsReference to e.len (payload_of xs e) xs ys
  pub twins : AreTwins 65 e.payload to ys

-- such an extent came, where none stood, and the elements stayed
pub record Copies {S : Type 0} (elements_of : S → Option (List Element)) (mark_of : S → Key → ℕ) (extents_of : S → Option (List Extent))
    (e : Element) (to : ℕ) (old new : S) : Type 0 where
  pub elements : elements_of new ≡ elements_of old
  pub mark : mark_of new ≡ mark_of old
  pub told : is_some (extents_of new) ≡ is_some (extents_of old)
  pub place : IsFreshPlace (extents_of old) e.payload to
  pub extents : IfSome (extents_of old) (λ xs. IsSomeAnd (extents_of new) (IsCopy e to xs))

-- an element's payload stands at another offset, and its reference to the extent where it stood is given back
pub record MovesElement {S : Type 0} (elements_of : S → Option (List Element)) (mark_of : S → Key → ℕ) (extents_of : S → Option (List Extent))
    (e : Element) (to : ℕ) (old new : S) : Type 0 where
  pub elements : elements_of new ≡ option_map (with_payload (element_key e) to) (elements_of old)
  pub extents : extents_of new ≡ option_map (given_back_at e.payload) (extents_of old)
  pub marks : OnSome (elements_of old) (MarksStay (mark_of old) (mark_of new))

-- the element at the key of another one, if there is one, does not refer to an offset
abbrev pub IsAway : ℕ → Element → List Element → Type 0
IsAway from known es = IfSome (element_at (element_key known) es) (λ e. e.payload ≢ from)

-- so for those at the places of a list from one on to before another one
abbrev pub AllAway : ℕ → List Element → ℕ → ℕ → List Element → Type 0
AllAway from known at next es = (k : ℕ) → at ≤ k → k < next → IfSome (slice_get known k) (λ x. IsAway from x es)

-- Of a balanced content one extent moved at most, to a place of its zone where none stood, and some elements with it. It
-- is balanced, each element has its payload, and all else is as before.
pub record MovesExtent (was now : List Element × List Extent) : Type 0 where
  pub balanced : IsBalanced now.0 now.1
  pub full : full_elements now.0 now.1 ≡ full_elements was.0 was.1
  pub from : ℕ
  pub to : ℕ
  pub zone : zone_of to ≡ zone_of from
  pub new : to ≢ from → extent_at to was.1 ≡ None
  pub elements : MovesTo from to was.0 now.0
  pub others : (at : ℕ) → nat_eq at from ≡ false → nat_eq at to ≡ false → extent_at at now.1 ≡ extent_at at was.1

-- so of a store that told a balanced content, which is so still, with the same elements and payloads; no mark changed
pub record MovesPayloads {S : Type 0} (elements_of : S → Option (List Element)) (mark_of : S → Key → ℕ) (extents_of : S → Option (List Extent)) (old new : S) :
    Type 0 where
  pub content : IfSome (content_of (elements_of old) (extents_of old)) (λ was. IsBalanced was.0 was.1
      → IsSomeAnd (content_of (elements_of new) (extents_of new)) (MovesExtent was))
  pub elements : is_some (elements_of new) ≡ is_some (elements_of old)
  pub extents : is_some (extents_of new) ≡ is_some (extents_of old)
  pub marks : OnSome (elements_of old) (MarksStay (mark_of old) (mark_of new))
