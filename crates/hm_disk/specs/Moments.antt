-- What a crash at any moment since an earlier one may have left, over one call or many.
use Rattle.std.specs.Prelude.{◌≡◌, ◌⊎◌, ◌↔◌, ℕ, ◌≤◌, List, ◌∷◌, length}
use Rattle.hm_disk.specs.Crash.{Told, MayLeave}
use Rattle.hm_disk.specs.Disk.{Unchanged}

-- which images a crash since a moment may have left
abbrev pub LeftSince : Type 1
LeftSince = ℕ → List ℕ → Type 0

-- Over a read, what may have been left since each moment stays the same.
abbrev pub SameLeft : LeftSince → LeftSince → Type 0
SameLeft past since = (moment : ℕ) (image : List ℕ) → past moment image ↔ since moment image

-- Time goes on over a call, within which a crash may leave only images that are `Within`. What may
-- have been left since a moment up to the call's start was so before the call, or is one of these, and
-- all that was so before stays so. The disk keeps its size.
pub record Elapses (Within : List ℕ → Type 0) (past since : LeftSince) (old new : Told)
    : Type 0 where
  pub later : old.moment ≤ new.moment
  pub size : length new.bytes ≡ length old.bytes
  pub only : (moment : ℕ) (image : List ℕ) → moment ≤ old.moment → since moment image
      → past moment image ⊎ Within image
  pub keeps : (moment : ℕ) (image : List ℕ) → moment ≤ old.moment → past moment image
      → since moment image

-- Over one write or several, successful or not, their range counts as unsettled from the start.
abbrev pub WriteElapses : ℕ → ℕ → LeftSince → LeftSince → Told → Told → Type 0
WriteElapses place count past since old new =
    Elapses (MayLeave old.bytes ((place, count) ∷ old.unsettled)) past since old new

-- Over one call of `write_at`, as above; but one that changed nothing of what is told was not begun,
-- and no image within it counts.
pub record CallElapses (place count : ℕ) (past since : LeftSince) (old new : Told) : Type 0 where
  pub begun : WriteElapses place count past since old new
  pub not_begun : Unchanged old new → SameLeft past since

-- Over a sync, successful or not, a crash may leave what it might have left just before.
abbrev pub SyncElapses : LeftSince → LeftSince → Told → Told → Type 0
SyncElapses past since old new = Elapses (MayLeave old.bytes old.unsettled) past since old new

-- each of these images is one of those
abbrev pub Each : (List ℕ → Type 0) → (List ℕ → Type 0) → Type 0
Each Images Has = (image : List ℕ) → Images image → Has image
