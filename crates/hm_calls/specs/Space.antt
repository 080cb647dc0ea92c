-- What a call may take of the space of a store.
use Rattle.std.specs.Prelude.{ℕ, ◌+◌, ◌≤◌, Result, OnOk}
use Rattle.hm_key.specs.Charges.{Charges}

-- Whatever a call answers, the room of each zone falls by at most so many bytes. Where it succeeds, those are all that it
-- took, beside the big-blocks that it began.
pub record TakesAtMost {S : Type 0} (room_of : S → ℕ → ℕ) (free_of : S → ℕ) (most : ℕ → ℕ) (old new : S) {A E : Type 0} (result : Result A E) : Type 0 where
  pub room : (zone : ℕ) → room_of old zone ≤ room_of new zone + most zone
  pub charges : OnOk result (Charges room_of free_of most old new)
