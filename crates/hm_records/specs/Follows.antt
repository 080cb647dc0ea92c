-- Versions that follow one another, as those of lists that calls wrote do.
use Rattle.std.specs.Prelude.{◌≡◌, ◌≢◌, ◌⊎◌, ℕ, ◌+◌, ◌<◌, ◌≤◌, List, length}
use Rattle.std.specs.List.{Contains}
use Rattle.hm_types.specs.Elements.{FullElement, IsDead}
use Rattle.hm_types.specs.Intervals.{Keeps}
use Rattle.hm_key.specs.Counts.{IsSeen, Subject, bytes_subject, entry_subject, inode_subject, inodes_of, others_of, subject_of, target_subject}

-- an element was closed at an id, or before it
pub record IsClosedBy (i : ℕ) (e : FullElement) : Type 0 where
  pub closed : e.delete ≢ 0
  pub early : e.delete ≤ i

-- The versions of a subject that were made by `t` follow one another: of two, the older was closed by the id that made the
-- newer. A call that closes a version and makes the next one does both at one id.
abbrev pub VersionsFollow : Subject → ℕ → List FullElement → Type 0
VersionsFollow s t es =
    (old new : FullElement) → Contains es old → Contains es new → subject_of old.key ≡ s → subject_of new.key ≡ s
    → old.key.create < new.key.create → new.key.create ≤ t → IsClosedBy new.key.create old

-- A subject is about an object of a pseudo file system, or an entry of a directory in it. Its record is none of these.
pub data IsOf (pfs : ℕ) (s : Subject) : Type 0 where
  of_inode : (obj : ℕ) → s ≡ inode_subject pfs obj → IsOf pfs s
  of_bytes : (obj end : ℕ) → s ≡ bytes_subject pfs obj end → IsOf pfs s
  of_target : (obj : ℕ) → s ≡ target_subject pfs obj → IsOf pfs s
  of_entry : (directory key : ℕ) → s ≡ entry_subject pfs directory key → IsOf pfs s

-- an element has byte `x` of a file
pub record HasByte (pfs obj x : ℕ) (e : FullElement) : Type 0 where
  pub about : subject_of e.key ≡ bytes_subject pfs obj e.key.key
  pub from : e.key.key ≤ x + length e.bytes
  pub to : x < e.key.key

-- Two elements of a pseudo file system meet: they are versions of one subject, or have a byte of a file in common,
-- wherever the bytes of either end.
pub data Meet (pfs : ℕ) (a b : FullElement) : Type 0 where
  versions : IsOf pfs (subject_of a.key) → subject_of b.key ≡ subject_of a.key → Meet pfs a b
  bytes : (obj x : ℕ) → HasByte pfs obj x a → HasByte pfs obj x b → Meet pfs a b

-- The elements of a pseudo file system that were made by `t` follow one another: of two that meet, the one made earlier was
-- closed by the id that made the other, and no two that meet were made by one id.
pub record Follows (pfs t : ℕ) (es : List FullElement) : Type 0 where
  pub closed : (old new : FullElement) → Contains es old → Contains es new → Meet pfs old new → old.key.create < new.key.create → new.key.create ≤ t
      → IsClosedBy new.key.create old
  pub one : (a b : FullElement) → Contains es a → Contains es b → Meet pfs a b → a.key.create ≡ b.key.create → a.key.create ≤ t → a.key ≡ b.key

-- what followed before follows still, in each pseudo file system and up to any id
abbrev pub StillFollow : List FullElement → List FullElement → Type 0
StillFollow es es' = (pfs t : ℕ) → Follows pfs t es → Follows pfs t es'

-- an element is as it was, but for its delete id, which it may have got at `i`
pub record IsAged (i : ℕ) (e x : FullElement) : Type 0 where
  pub key : x.key ≡ e.key
  pub bytes : x.bytes ≡ e.bytes
  pub delete : (x.delete ≡ e.delete) ⊎ ((e.delete ≡ 0) × (x.delete ≡ i))

-- each element of a list was there before, and open ones may have been closed at `i`
abbrev pub HaveAged : ℕ → List FullElement → List FullElement → Type 0
HaveAged i es es' = (x : FullElement) → Contains es' x → (e : FullElement) × Contains es e × IsAged i e x

-- an element was made before an id, and closed by it
pub record EndedBy (i : ℕ) (e : FullElement) : Type 0 where
  pub made : e.key.create < i
  pub closed : IsClosedBy i e

-- all that meets an element has ended by the id that makes that one
abbrev pub HasWay : ℕ → FullElement → List FullElement → Type 0
HasWay pfs e es = (x : FullElement) → Contains es x → Meet pfs e x → EndedBy e.key.create x

-- the elements of a pseudo file system were made by `t`
abbrev pub AreMadeBy : ℕ → ℕ → List FullElement → Type 0
AreMadeBy pfs t es =
    (x : FullElement) → Contains es x → (x.key.localization ≡ inodes_of pfs) ⊎ (x.key.localization ≡ others_of pfs) → x.key.create ≤ t

-- these bytes are those of an element about a subject that is seen as of `t`
pub record IsSeenWith (es : List FullElement) (t : ℕ) (s : Subject) (bytes : List ℕ) : Type 0 where
  pub element : FullElement
  pub there : Contains es element
  pub about : subject_of element.key ≡ s
  pub holds : element.bytes ≡ bytes
  pub seen : IsSeen t element

-- a list lost elements, and none of those that went was seen as of `t`
pub record LosesUnseen (t : ℕ) (es es' : List FullElement) : Type 0 where
  pub fewer : (x : FullElement) → Contains es' x → Contains es x
  pub stays : (x : FullElement) → Contains es x → IsSeen t x → Contains es' x

-- a list lost elements, and each of those that went was dead for a retention
pub record LosesDead (kept : List (ℕ × ℕ)) (es es' : List FullElement) : Type 0 where
  pub fewer : (x : FullElement) → Contains es' x → Contains es x
  pub gone : (x : FullElement) → Contains es x → Contains es' x ⊎ IsDead kept x.key.create x.delete

-- an id is above each kept one
abbrev pub IsAbove : List (ℕ × ℕ) → ℕ → Type 0
IsAbove kept t = (u : ℕ) → Keeps kept u → u ≤ t
