-- A small store of the tests, which stands on a toy disk: its frame, and what is true of the disk beside it.
use Rattle.std.specs.Prelude.{◌≡◌, ℕ, ◌<◌, ◌≤◌, nat_lt, if◌then◌else◌, List, Option, None, Some, All, option_map, length, slice_index}
use Rattle.hm_key.specs.ToyDisk.{ToyTold, ToyLeftSince}

-- What no call of the store changes: the committed bytes; and where the disk tells it, the moment since which each crash
-- leaves them, and the byte at each of their places.
pub record LogFrame : Type 0 where
  pub committed : List ℕ
  pub moment : Option ℕ
  pub front : Option (ℕ → Option ℕ)

-- the byte at each place below the end
abbrev pub front_below : ℕ → ToyTold → ℕ → Option ℕ
front_below end t at = if nat_lt at end then Some (slice_index t.bytes at) else None

-- It does not unfold by itself, so that equal frames chain without a look inside.
unfoldable pub log_frame : List ℕ → Option ToyTold → LogFrame
log_frame committed told = record {
  committed = committed;
  moment = option_map (λ t. t.moment) told;
  front = option_map (front_below (length committed)) told;
}

-- an image recovers to these bytes: they stand at its front
abbrev pub Recovers : List ℕ → List ℕ → Type 0
Recovers committed image = (at : ℕ) → at < length committed → slice_index image at ≡ slice_index committed at

-- the disk has so many bytes, the committed ones at its front, and nothing that is unsettled among these
abbrev pub HoldsCommitted : List ℕ → ℕ → ToyTold → Type 0
HoldsCommitted committed size t =
    (size ≤ length t.bytes) × Recovers committed t.bytes × All (λ place. length committed ≤ place) t.unsettled

-- each image that a crash since this moment may have left recovers to these bytes
abbrev pub EachRecovers : ToyLeftSince → ℕ → List ℕ → Type 0
EachRecovers left moment committed = (image : List ℕ) → left moment image → Recovers committed image

-- What an owner knows of the disk after any code ran on its store: the moment is the one before, each crash since then
-- leaves the bytes that were committed then, and the disk has the same ones at its front.
pub record StillSafe (committed : List ℕ) (left : ToyLeftSince) (old new : ToyTold) : Type 0 where
  pub moment : new.moment ≡ old.moment
  pub crash : EachRecovers left old.moment committed
  pub front : (at : ℕ) → at < length committed → slice_index new.bytes at ≡ slice_index old.bytes at
