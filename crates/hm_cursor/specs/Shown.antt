-- What a cursor shows: the elements of a localization that are seen as of an id.
use Rattle.std.specs.Prelude.{◌≡◌, ◌↔◌, ℕ, List, Option, None, Some, IsSomeAnd}
use Rattle.std.specs.List.{Contains}
use Rattle.hm_types.specs.Elements.{Key, Sees}
use Rattle.hm_key.specs.Elements.{element_key}
use Rattle.hm_key.specs.Key.{key_of, IsBefore, IsFrom, IsWide}
use Rattle.hm_key.specs.declared.base.Base.{Base}
use Rattle.hm_key.specs.declared.element.Element.{Element}
use Rattle.hm_cursor.specs.declared.cursor.Cursor.{Cursor}

-- an element is of a localization, and seen as of `t`
pub record IsShown (localization t : ℕ) (e : Element) : Type 0 where
  pub place : e.base.localization ≡ localization
  pub seen : Sees e.base.create e.base.delete t
  pub wide : IsWide (element_key e)

-- a key may still come, from where a cursor stands
abbrev pub IsToCome : Option Base → Key → Type 0
IsToCome from key = IsSomeAnd from (λ at. IsFrom (key_of at) key)

-- of the elements that a cursor shows this is the next one to come
pub record IsNextShown (es : List Element) (cursor : Cursor) (e : Element) : Type 0 where
  pub there : Contains es e
  pub first : (other : Element) → Contains es other → IsShown cursor.localization cursor.as_of.0 other
      → IsToCome cursor.from (element_key other) → IsFrom (element_key e) (element_key other)

-- what a cursor answers over these elements: the next one that it shows, and none exactly where none is to come
abbrev pub IsNext : List Element → Cursor → Option Element → Type 0
IsNext es cursor None =
    (other : Element) → Contains es other → IsShown cursor.localization cursor.as_of.0 other
    → IsToCome cursor.from (element_key other) → ⊥
IsNext es cursor (Some e) = IsNextShown es cursor e

-- A cursor goes past an element that it shows and that was to come: then those after it are to come, and no others.
pub record IsPast (old : Cursor) (e : Element) (new : Cursor) : Type 0 where
  pub shown : IsShown old.localization old.as_of.0 e
  pub came : IsToCome old.from (element_key e)
  pub localization : new.localization ≡ old.localization
  pub as_of : new.as_of ≡ old.as_of
  pub rest : (key : Key) → IsWide key → IsToCome new.from key ↔ IsBefore (element_key e) key

-- what is to come from here on is what stands after a base
abbrev pub IsAfter : Base → Option Base → Type 0
IsAfter base from = (key : Key) → IsWide key → IsToCome from key ↔ IsBefore (key_of base) key

-- a cursor that answers an element goes past it, and one that answers none stays
abbrev pub GoesPast : Cursor → Option Element → Cursor → Type 0
GoesPast old None new = new ≡ old
GoesPast old (Some e) new = IsPast old e new

-- a cursor of a localization stands at a key: what is to come there is what stands at the key or after it
pub record StandsAt (localization t : ℕ) (at : Key) (cursor : Cursor) : Type 0 where
  pub place : cursor.localization ≡ localization
  pub as_of : cursor.as_of.0 ≡ t
  pub to_come : (key : Key) → key.localization ≡ localization → IsToCome cursor.from key ↔ IsFrom at key
