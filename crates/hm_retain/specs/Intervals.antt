-- Lists of intervals of ids that are maximal, and the sets for which they stand.
use Rattle.std.specs.Prelude.{◌↔◌, ℕ, ◌+◌, ◌^◌, ◌<◌, ◌≤◌, List, [], ◌∷◌, map}
use Rattle.hm_types.specs.declared.id.Id.{Id}
use Rattle.hm_types.specs.Intervals.{Keeps}

-- the numbers of pairs of ids
abbrev pub numbers_of : List (Id × Id) → List (ℕ × ℕ)
numbers_of = map (λ (pair : Id × Id). (pair.0.0, pair.1.0))

-- the list keeps exactly the ids of the set
abbrev pub KeepsExactly : List (ℕ × ℕ) → (ℕ → Type 0) → Type 0
KeepsExactly list Set = (id : ℕ) → id < 2 ^ 64 → (Keeps list id ↔ Set id)

-- an interval of ids that begins at `least` or above
pub record IsInterval (least : ℕ) (interval : ℕ × ℕ) : Type 0 where
  pub above : least ≤ interval.0
  pub ordered : interval.0 ≤ interval.1
  pub bounded : interval.1 < 2 ^ 64

-- intervals from `least` on, each of which begins above the last id of the one before plus 1: they
-- rise, no two share an id, and no two are adjacent
abbrev pub RiseFrom : ℕ → List (ℕ × ℕ) → Type 0
RiseFrom least [] = Unit {0}
RiseFrom least (interval ∷ more) = IsInterval least interval × RiseFrom (interval.1 + 2) more

-- the maximal intervals of a set of ids, in rising order
abbrev pub IsIntervals : List (ℕ × ℕ) → Type 0
IsIntervals list = RiseFrom 0 list
