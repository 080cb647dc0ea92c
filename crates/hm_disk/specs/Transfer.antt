-- What a transfer of any length does to a disk.
use Rattle.std.specs.Prelude.{◌≡◌, ℕ, ◌<◌, List, [], ◌∷◌, length}
use Rattle.hm_disk.specs.Crash.{Told, Outside, MayLeave}
use Rattle.hm_disk.specs.Disk.{overwritten}

-- no byte is unsettled but those of the range and those that were
abbrev pub UnsettlesAtMost : ℕ → ℕ → Told → Told → Type 0
UnsettlesAtMost place count old new =
    (byte : ℕ) → Outside ((place, count) ∷ old.unsettled) byte → Outside new.unsettled byte

-- the disk holds these bytes there
pub record WrittenAll (place : ℕ) (bytes : List ℕ) (old new : Told) : Type 0 where
  pub bytes_are : new.bytes ≡ overwritten old.bytes place bytes
  pub unsettled_are : UnsettlesAtMost place (length bytes) old new
  pub moment_is : new.moment ≡ old.moment

-- each byte outside the range is as before
pub record TornAll (place count : ℕ) (old new : Told) : Type 0 where
  pub bytes_are : MayLeave old.bytes ((place, count) ∷ []) new.bytes
  pub unsettled_are : UnsettlesAtMost place count old new
  pub moment_is : new.moment ≡ old.moment

-- the disk holds these bytes there, and nothing is unsettled
pub record WrittenSynced (place : ℕ) (bytes : List ℕ) (old new : Told) : Type 0 where
  pub bytes_are : new.bytes ≡ overwritten old.bytes place bytes
  pub unsettled_are : new.unsettled ≡ []
  pub later : old.moment < new.moment
