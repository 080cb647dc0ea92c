-- The records of pseudo file systems: which numbers have one, and what is left where one is replaced.
use Rattle.std.specs.Prelude.{◌≡◌, ◌≢◌, ◌↔◌, ℕ, ◌^◌, ◌<◌, ◌≤◌, List, Option, None, Some}
use Rattle.std.specs.List.{Contains}
use Rattle.hm_types.specs.Elements.{FullElement, Key}
use Rattle.hm_types.specs.Tree.{FileTree}
use Rattle.hm_types.specs.declared.id.Pfs.{Pfs}
use Rattle.hm_key.specs.Counts.{Counts, IsSeen, Subject, record_subject, subject_of}
use Rattle.hm_key.specs.Versions.{IsBelow}
use Rattle.hm_records.specs.Changes.{CountsNothing}
use Rattle.hm_records.specs.Laws.{HasView}
use Rattle.hm_types.specs.Intervals.{open_end}

-- ---- numbers

-- a record counts for a pseudo file system as of the greatest id, as of which open elements are seen and no others
pub record IsUsed (es : List FullElement) (pfs : ℕ) : Type 0 where
  pub bytes : List ℕ
  pub counts : Counts es open_end (record_subject pfs) bytes

-- a number has no record, and each one before it from `first` on has
pub record IsFirstUnused (es : List FullElement) (first pfs : ℕ) : Type 0 where
  pub onward : first ≤ pfs
  pub few : pfs < 2 ^ 16
  pub unused : CountsNothing (Counts es open_end) (record_subject pfs)
  pub used : (other : ℕ) → first ≤ other → other < pfs → IsUsed es other

-- the least number from `first` on that has no record, and none exactly where all of those have one
abbrev pub IsLeastUnused : List FullElement → ℕ → Option Pfs → Type 0
IsLeastUnused es first None = (other : ℕ) → first ≤ other → other < 2 ^ 16 → IsUsed es other
IsLeastUnused es first (Some pfs) = IsFirstUnused es first pfs.0

-- ---- a record in place of another

-- what stood at a key is gone, and all else stays
abbrev pub LosesKey : Key → List FullElement → List FullElement → Type 0
LosesKey at es es' = (x : FullElement) → Contains es' x ↔ (Contains es x × (x.key ≢ at))

-- an element is the record of a pseudo file system: of its versions made by the greatest id it is the newest, and seen then
pub record IsRecordElement (es : List FullElement) (pfs : ℕ) (e : FullElement) : Type 0 where
  pub there : Contains es e
  pub about : subject_of e.key ≡ record_subject pfs
  pub seen : IsSeen open_end e
  pub newest : (other : FullElement) → Contains es other → subject_of other.key ≡ record_subject pfs
      → other.key.create ≤ open_end → other.key.create ≤ e.key.create

-- what becomes of an element where the record of a pseudo file system gets these bytes: of that one all but the bytes
-- stays, and of each other one all
pub data Becomes (pfs : ℕ) (bytes : List ℕ) (es : List FullElement) (e : FullElement) : FullElement → Type 0 where
  rewritten : IsRecordElement es pfs e → Becomes pfs bytes es e (record e { bytes = bytes })
  stays : (IsRecordElement es pfs e → ⊥) → Becomes pfs bytes es e e

-- The record of a pseudo file system, if it has one, gets these bytes. Every other element stays, every id, every view at
-- every id, and what counts for every other subject.
pub record SetsRecord (pfs : ℕ) (bytes : List ℕ) (es es' : List FullElement) : Type 0 where
  pub elements : (y : FullElement) → Contains es' y ↔ ((x : FullElement) × Contains es x × Becomes pfs bytes es x y)
  pub record_now : (was held : List ℕ) → Counts es open_end (record_subject pfs) was
      → Counts es' open_end (record_subject pfs) held ↔ (held ≡ bytes)
  pub none : CountsNothing (Counts es open_end) (record_subject pfs) → CountsNothing (Counts es' open_end) (record_subject pfs)
  pub elsewhere : (t : ℕ) (s : Subject) (held : List ℕ) → s ≢ record_subject pfs → Counts es' t s held ↔ Counts es t s held
  pub views : (t other : ℕ) (tree : FileTree) → HasView (Counts es t) other tree → HasView (Counts es' t) other tree
  pub ids : (i : ℕ) → IsBelow i es → IsBelow i es'
