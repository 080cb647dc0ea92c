-- Sets of ids, written as lists of intervals. An interval is the pair of its first and its last id.
use Rattle.std.specs.Prelude.{◌⊎◌, ℕ, ◌-◌, ◌^◌, ◌≤◌, List, [], ◌∷◌}

-- the id that ends an interval without an end
abbrev pub open_end : ℕ
open_end = 2 ^ 64 - 1

-- the interval holds the id
abbrev pub Holds : ℕ × ℕ → ℕ → Type 0
Holds interval id = (interval.0 ≤ id) × (id ≤ interval.1)

-- some interval of the list holds the id
abbrev pub Keeps : List (ℕ × ℕ) → ℕ → Type 0
Keeps [] id = ⊥
Keeps (interval ∷ more) id = Holds interval id ⊎ Keeps more id
