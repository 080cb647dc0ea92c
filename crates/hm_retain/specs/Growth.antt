-- A list of intervals that grows at its end.
use Rattle.std.specs.Prelude.{◌⊎◌, ◌↔◌, ℕ, ◌+◌, ◌≤◌, List, [], ◌∷◌, Option, Some, None}
use Rattle.hm_types.specs.declared.id.Id.{Id}
use Rattle.hm_types.specs.Intervals.{Holds, Keeps}

-- the least id at which an interval may begin after one that ends at the given id, if there is one
abbrev pub least_after : Option Id → ℕ
least_after None = 0
least_after (Some last) = last.0 + 2

-- no interval begins above `first`
abbrev pub BeginBy : ℕ → List (ℕ × ℕ) → Type 0
BeginBy first [] = Unit {0}
BeginBy first (interval ∷ more) = (interval.0 ≤ first) × BeginBy first more

-- the ids of an interval are added, and no other
pub record Adds (added : ℕ × ℕ) (old new : List (ℕ × ℕ)) : Type 0 where
  pub keeps : (id : ℕ) → (Keeps new id ↔ (Keeps old id ⊎ Holds added id))
  pub begin : BeginBy added.0 new
