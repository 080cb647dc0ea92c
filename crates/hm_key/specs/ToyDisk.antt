-- A toy disk of the tests: what it tells, what a call makes of that, and what a crash may leave.
use Rattle.std.specs.Prelude.{◌≡◌, ◌≢◌, ◌⊎◌, ℕ, ◌+◌, List, [], ◌∷◌, All, length, slice_index, slice_set}

-- the bytes that reads give, the places that no sync has settled, and the moment: how many syncs succeeded
pub record ToyTold : Type 0 where
  pub bytes : List ℕ
  pub unsettled : List ℕ
  pub moment : ℕ

-- which images a crash since a moment may have left
abbrev pub ToyLeftSince : Type 1
ToyLeftSince = ℕ → List ℕ → Type 0

-- a byte stands at none of these places
abbrev pub IsAtNone : List ℕ → ℕ → Type 0
IsAtNone places at = All (λ place. place ≢ at) places

-- a crash of a disk with these bytes may leave this image: it has as many, and the same ones but at unsettled places
pub record ToyMayLeave (bytes unsettled image : List ℕ) : Type 0 where
  pub size : length image ≡ length bytes
  pub same : (at : ℕ) → IsAtNone unsettled at → slice_index image at ≡ slice_index bytes at

-- a write that succeeded: the byte stands at the place
abbrev pub ToyWritten : ℕ → ℕ → ToyTold → ToyTold → Type 0
ToyWritten place byte old new = new.bytes ≡ slice_set old.bytes place byte

-- a write that was begun: the place holds any byte and is unsettled, and the moment stays
pub record Begun (place : ℕ) (old new : ToyTold) : Type 0 where
  pub bytes : ToyMayLeave old.bytes (place ∷ []) new.bytes
  pub unsettled : new.unsettled ≡ place ∷ old.unsettled
  pub moment : new.moment ≡ old.moment

-- a write, whatever it answers: it was begun, or it changed nothing
abbrev pub MayBeBegun : ℕ → ToyTold → ToyTold → Type 0
MayBeBegun place old new = Begun place old new ⊎ (new ≡ old)

-- a sync that succeeded: nothing is unsettled, the bytes stay, and the moment is the next one
abbrev pub ToySynced : ToyTold → ToyTold → Type 0
ToySynced old new = new ≡ record { bytes = old.bytes; unsettled = []; moment = old.moment + 1 }
