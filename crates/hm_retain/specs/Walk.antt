-- Two lists of intervals that are walked together.
use Rattle.std.specs.Prelude.{◌≡◌, ◌⊎◌, ◌↔◌, ℕ, ◌≤◌, max, List, [], ◌∷◌}
use Rattle.hm_types.specs.Intervals.{Holds, Keeps}
use Rattle.hm_retain.specs.Growth.{BeginBy}

-- the ids that two intervals share are added, and no other
pub record AddsShared (x y : ℕ × ℕ) (old new : List (ℕ × ℕ)) : Type 0 where
  pub keeps : (id : ℕ) → (Keeps new id ↔ (Keeps old id ⊎ (Holds x id × Holds y id)))
  pub begin : BeginBy (max x.0 y.0) new

-- the list is empty, or its head begins at `first` or above
abbrev pub HeadFrom : ℕ → List (ℕ × ℕ) → Type 0
HeadFrom first [] = Unit {0}
HeadFrom first (interval ∷ more) = first ≤ interval.0

-- one of two lists loses its head, which begins no later than the other list
abbrev pub TakesEarliest : List (ℕ × ℕ) → List (ℕ × ℕ) → ℕ × ℕ → List (ℕ × ℕ) → List (ℕ × ℕ) → Type 0
TakesEarliest a b taken more_a more_b =
    ((a ≡ taken ∷ more_a) × (b ≡ more_b) × HeadFrom taken.0 b) ⊎ ((b ≡ taken ∷ more_b) × (a ≡ more_a) × HeadFrom taken.0 a)
