-- How many big-blocks the calls of a run may have taken: each zone begins one only once it has filled the one before.
use Rattle.std.specs.Prelude.{ℕ, ◌+◌, ◌*◌, ◌/◌, ◌≤◌}
use Rattle.hm_types.specs.Space.{reserve_of}
use Rattle.hm_types.specs.declared.limits.TheConstants.{BIGBLOCK_BYTES}

-- how many calls fill a whole big-block of a zone at least: none takes more than the zone's reserve
abbrev pub calls_in : ℕ → ℕ
calls_in zone = BIGBLOCK_BYTES / reserve_of zone

-- After so many calls zones have begun so many big-blocks, and have this room.
abbrev pub HasFilled : ℕ → (ℕ → ℕ) → (ℕ → ℕ) → Type 0
HasFilled calls room begun = (zone : ℕ) → begun zone * calls_in zone ≤ calls + room zone / reserve_of zone

-- Of the big-blocks that were free as a run began, all are free but those that zones have begun since.
pub record IsPaid (first free calls : ℕ) (room : ℕ → ℕ) : Type 0 where
  pub begun : ℕ → ℕ
  pub filled : HasFilled calls room begun
  pub paid : first ≤ free + (begun 8 + begun 9 + begun 10 + begun 11)
