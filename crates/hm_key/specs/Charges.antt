-- What a call takes of the space of a store.
use Rattle.std.specs.Prelude.{ℕ, ◌+◌, ◌<◌, ◌≤◌, Bool, IsFalse, IsTrue, if◌then◌else◌}
use Rattle.hm_types.specs.Space.{reserve_of}
use Rattle.hm_types.specs.declared.limits.TheConstants.{BIGBLOCK_BYTES}

-- one for a zone that began a big-block
abbrev pub one_for : Bool → ℕ
one_for begun = if begun then 1 else 0

-- how many of the zones 8 to 11 began one
abbrev pub begun_in : (ℕ → Bool) → ℕ
begun_in begun = one_for (begun 8) + one_for (begun 9) + one_for (begun 10) + one_for (begun 11)

-- A call began a free big-block in some zones, each of which had less room than its reserve, and it took at most so many
-- bytes of each zone: of the big-block that was begun, or of the room that the zone had. So many fewer big-blocks are free
-- at most.
pub record Charges {S : Type 0} (room_of : S → ℕ → ℕ) (free_of : S → ℕ) (most : ℕ → ℕ) (old new : S) : Type 0 where
  pub begun : ℕ → Bool
  pub lacked : (zone : ℕ) → IsTrue (begun zone) → room_of old zone < reserve_of zone
  pub whole : (zone : ℕ) → IsTrue (begun zone) → BIGBLOCK_BYTES ≤ room_of new zone + most zone
  pub others : (zone : ℕ) → IsFalse (begun zone) → room_of old zone ≤ room_of new zone + most zone
  pub paid : free_of old ≤ free_of new + begun_in begun
