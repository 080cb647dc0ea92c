-- Which element counts about a subject, as of an id.
use Rattle.std.specs.Prelude.{◌≡◌, ℕ, ◌≤◌, List, Option, None, Some}
use Rattle.std.specs.List.{Contains}
use Rattle.hm_types.specs.Elements.{Key, Sees}
use Rattle.hm_key.specs.Counts.{Subject, subject_of}
use Rattle.hm_key.specs.Element.{IsElement}
use Rattle.hm_key.specs.Elements.{element_key}
use Rattle.hm_key.specs.declared.element.Element.{Element}

-- an element is a version of a subject that is seen as of `t`
pub record IsSeenAbout (s : Subject) (t : ℕ) (e : Element) : Type 0 where
  pub about : subject_of (element_key e) ≡ s
  pub seen : Sees e.base.create e.base.delete t

-- of the versions of a subject that were made by `t` this is the newest, and it is seen
pub record IsNewestOf (es : List Element) (s : Subject) (t : ℕ) (e : Element) : Type 0 where
  pub there : Contains es e
  pub version : IsSeenAbout s t e
  pub newest : (other : Element) → Contains es other → subject_of (element_key other) ≡ s → other.base.create ≤ t
      → other.base.create ≤ e.base.create

-- the version that counts: the newest one that was made by then, where that is seen, and none exactly where it is not
abbrev pub IsVersion : List Element → Subject → ℕ → Option Element → Type 0
IsVersion es s t None = (e : Element) → IsNewestOf es s t e → ⊥
IsVersion es s t (Some e) = IsNewestOf es s t e

-- an element that may be answered as the version that counts, over any store
pub record IsFoundAbout (s : Subject) (t : ℕ) (e : Element) : Type 0 where
  pub element : IsElement e
  pub version : IsSeenAbout s t e

-- a key is about the object and of the type of another one, and has a number from that one's to `last`
pub record IsInSpan (at : Key) (last : ℕ) (key : Key) : Type 0 where
  pub localization : key.localization ≡ at.localization
  pub obj : key.obj ≡ at.obj
  pub rec_type : key.rec_type ≡ at.rec_type
  pub from : at.key ≤ key.key
  pub to : key.key ≤ last

-- an element in such a span is seen as of `t`
pub record IsSeenIn (at : Key) (last t : ℕ) (e : Element) : Type 0 where
  pub place : IsInSpan at last (element_key e)
  pub seen : Sees e.base.create e.base.delete t

-- an element in such a span counts
pub record IsCountedIn (es : List Element) (at : Key) (last t : ℕ) (e : Element) : Type 0 where
  pub counts : IsNewestOf es (subject_of (element_key e)) t e
  pub place : IsInSpan at last (element_key e)

-- of those this is the first
pub record IsFirstIn (es : List Element) (at : Key) (last t : ℕ) (e : Element) : Type 0 where
  pub counts : IsNewestOf es (subject_of (element_key e)) t e
  pub place : IsInSpan at last (element_key e)
  pub first : (other : Element) → IsCountedIn es at last t other → e.base.key ≤ other.base.key

-- the first element in a span that counts, and none exactly where none counts there
abbrev pub IsFirst : List Element → Key → ℕ → ℕ → Option Element → Type 0
IsFirst es at last t None = (e : Element) → IsCountedIn es at last t e → ⊥
IsFirst es at last t (Some e) = IsFirstIn es at last t e

-- of those this is the last
pub record IsLastIn (es : List Element) (at : Key) (last t : ℕ) (e : Element) : Type 0 where
  pub counts : IsNewestOf es (subject_of (element_key e)) t e
  pub place : IsInSpan at last (element_key e)
  pub most : (other : Element) → IsCountedIn es at last t other → other.base.key ≤ e.base.key

-- the last element in a span that counts, and none exactly where none counts there
abbrev pub IsLast : List Element → Key → ℕ → ℕ → Option Element → Type 0
IsLast es at last t None = (e : Element) → IsCountedIn es at last t e → ⊥
IsLast es at last t (Some e) = IsLastIn es at last t e

-- a key with another number
abbrev pub numbered : Key → ℕ → Key
numbered at number = record at { key = number }

-- an element that may be answered as the first one in a span, or the last one, over any store
pub record IsFoundIn (at : Key) (last t : ℕ) (e : Element) : Type 0 where
  pub element : IsElement e
  pub seen : IsSeenIn at last t e

-- an element is a version of a subject that was made by `t`
pub record IsMadeUpTo (s : Subject) (t : ℕ) (e : Element) : Type 0 where
  pub element : IsElement e
  pub about : subject_of (element_key e) ≡ s
  pub made : e.base.create ≤ t

-- of the versions of a subject that were made by `t` this is the newest
pub record IsNewestMadeOf (es : List Element) (s : Subject) (t : ℕ) (e : Element) : Type 0 where
  pub there : Contains es e
  pub newest : (other : Element) → Contains es other → subject_of (element_key other) ≡ s → other.base.create ≤ t
      → other.base.create ≤ e.base.create

-- the newest version of a subject that was made by `t`, and none exactly where none was made by then
abbrev pub IsNewestMade : List Element → Subject → ℕ → Option Element → Type 0
IsNewestMade es s t None = (e : Element) → Contains es e → subject_of (element_key e) ≡ s → e.base.create ≤ t → ⊥
IsNewestMade es s t (Some e) = IsNewestMadeOf es s t e

-- of the versions of a subject this is the oldest
pub record IsOldestOf (es : List Element) (s : Subject) (e : Element) : Type 0 where
  pub there : Contains es e
  pub first : (other : Element) → Contains es other → subject_of (element_key other) ≡ s → e.base.create ≤ other.base.create

-- two keys are about one object of one localization, and of one type
pub record AreOfOneKind (a b : Key) : Type 0 where
  pub localization : a.localization ≡ b.localization
  pub obj : a.obj ≡ b.obj
  pub rec_type : a.rec_type ≡ b.rec_type
