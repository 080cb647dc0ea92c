-- What a call makes of what a disk tells.
use Rattle.std.specs.Prelude.{◌≡◌, ◌⊎◌, ℕ, ◌+◌, ◌<◌, List, [], ◌∷◌, ◌++◌, length, take, drop, Option, option_map}
use Rattle.hm_disk.specs.Crash.{Told, MayLeave}

-- the moment, where it is told
abbrev pub moment_of : Option Told → Option ℕ
moment_of told = option_map (λ t. t.moment) told

-- the old bytes with these in the place of those that stood there
abbrev pub overwritten : List ℕ → ℕ → List ℕ → List ℕ
overwritten old place bytes = take place old ++ (bytes ++ drop (place + length bytes) old)

-- a write that succeeded: the disk holds these bytes there, and their range is unsettled too
pub record Written (place : ℕ) (bytes : List ℕ) (old new : Told) : Type 0 where
  pub bytes_are : new.bytes ≡ overwritten old.bytes place bytes
  pub unsettled_are : new.unsettled ≡ (place, length bytes) ∷ old.unsettled
  pub moment_is : new.moment ≡ old.moment

-- a write that was begun: the range holds any bytes and is unsettled too, and each byte outside it is
-- as before
pub record Torn (place count : ℕ) (old new : Told) : Type 0 where
  pub bytes_are : MayLeave old.bytes ((place, count) ∷ []) new.bytes
  pub unsettled_are : new.unsettled ≡ (place, count) ∷ old.unsettled
  pub moment_is : new.moment ≡ old.moment

-- the disk tells what it told
pub record Unchanged (old new : Told) : Type 0 where
  pub bytes_are : new.bytes ≡ old.bytes
  pub unsettled_are : new.unsettled ≡ old.unsettled
  pub moment_is : new.moment ≡ old.moment

-- a write that failed: it was begun, or it was not and changed nothing at all
abbrev pub MayBeTorn : ℕ → ℕ → Told → Told → Type 0
MayBeTorn place count old new = Torn place count old new ⊎ Unchanged old new

-- a sync that succeeded: nothing is unsettled, the bytes are as before, and the moment is a later one
pub record Synced (old new : Told) : Type 0 where
  pub bytes_are : new.bytes ≡ old.bytes
  pub unsettled_are : new.unsettled ≡ []
  pub later : old.moment < new.moment
