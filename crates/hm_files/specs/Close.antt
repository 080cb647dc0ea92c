-- Bytes of a file that are closed.
use Rattle.std.specs.Prelude.{◌≢◌, ◌↔◌, ℕ, ◌+◌, ◌<◌, ◌≤◌, List, Option, IfSome}
use Rattle.hm_types.specs.Elements.{FullElement}
use Rattle.hm_types.specs.declared.limits.TheConstants.{BLOCK_BYTES}
use Rattle.hm_key.specs.Balance.{content_of}
use Rattle.hm_key.specs.Counts.{Counts, Subject, bytes_subject}
use Rattle.hm_key.specs.Extents.{Extent}
use Rattle.hm_key.specs.declared.element.Element.{Element}
use Rattle.hm_records.specs.Changes.{CountsNothing}
use Rattle.hm_records.specs.Follows.{Follows, StillFollow}
use Rattle.hm_cursor.specs.Told.{fulls}
use Rattle.hm_cursor.specs.Views.{IsMissing, IsNothing, Shows, WritesIn}
use Rattle.hm_cursor.specs.Write.{IsFreshFor}

-- the bytes of a file that end from an offset on are older than `i`
abbrev pub AreOlder : ℕ → ℕ → ℕ → ℕ → List FullElement → Type 0
AreOlder pfs obj i first es = (n : ℕ) → first ≤ n → IsFreshFor (bytes_subject pfs obj n) i es

-- the same of a store, where it tells its content
abbrev pub AreOlderIn : Option (List Element) → Option (List Extent) → ℕ → ℕ → ℕ → ℕ → Type 0
AreOlderIn es xs pfs obj i first = IfSome (content_of es xs) (λ lists. AreOlder pfs obj i first (fulls lists))

-- a subject is none of the bytes of a file that end from one offset on and before another one
abbrev pub IsApart : ℕ → ℕ → ℕ → ℕ → Subject → Type 0
IsApart pfs obj first end s = (n : ℕ) → first ≤ n → n < end → s ≢ bytes_subject pfs obj n

-- a subject is none of the bytes of a file that end in a block, from where it begins, but those that end at `end`
abbrev pub IsOutside : ℕ → ℕ → ℕ → ℕ → Subject → Type 0
IsOutside pfs obj begin end s = (n : ℕ) → begin < n → n ≤ begin + BLOCK_BYTES → n ≢ end → s ≢ bytes_subject pfs obj n

-- The bytes of a file that end from one offset on and before another one are closed at `i`: none of them counts from then on.
-- For all other subjects the same counts, as of any id, and what followed before follows still.
pub record ClosesBytes (pfs obj i first end : ℕ) (es es' : List FullElement) : Type 0 where
  pub writes : WritesIn pfs i IsNothing es es'
  pub gone : (t n : ℕ) → i ≤ t → first ≤ n → n < end → CountsNothing (Counts es' t) (bytes_subject pfs obj n)
  pub beside : (t : ℕ) (s : Subject) (bytes : List ℕ) → IsApart pfs obj first end s → Counts es' t s bytes ↔ Counts es t s bytes
  pub follows : StillFollow es es'

-- in a block of a file, from where it begins, no bytes count from `i` on but those that end at `end`
abbrev pub IsLeftAlone : ℕ → ℕ → ℕ → ℕ → ℕ → List FullElement → Type 0
IsLeftAlone pfs obj i begin end es =
    (n : ℕ) → begin < n → n ≤ begin + BLOCK_BYTES → n ≢ end → CountsNothing (Counts es i) (bytes_subject pfs obj n)

-- In a block of a file, from where it begins, bytes are closed at `i`, but none that end at `end`: all of them where versions
-- follow one another. For what is about no other bytes of the block the same counts, as of any id.
pub record ClearsBlock (pfs obj i begin end : ℕ) (es es' : List FullElement) : Type 0 where
  pub writes : WritesIn pfs i IsNothing es es'
  pub less : (t : ℕ) (s : Subject) (bytes : List ℕ) → Counts es' t s bytes → Counts es t s bytes
  pub beside : (t : ℕ) (s : Subject) (bytes : List ℕ) → IsOutside pfs obj begin end s → Counts es t s bytes → Counts es' t s bytes
  pub follows : StillFollow es es'
  pub alone : (t : ℕ) → i ≤ t → Follows pfs t es → IsLeftAlone pfs obj i begin end es'

-- The bytes of an object that has no inode any more are closed at `i`, and its tree stays.
pub record RemovesBytes (pfs obj i end : ℕ) (es es' : List FullElement) : Type 0 where
  pub closes : ClosesBytes pfs obj i 0 end es es'
  pub shows : IsMissing pfs obj i es → Shows pfs i (λ tree. tree) es es'
