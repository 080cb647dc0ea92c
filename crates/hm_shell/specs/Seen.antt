-- What a contract sees of a device at one moment.
use Rattle.std.specs.Prelude.{ℕ, Option}

-- what it tells, if it tells anything, and its count of faults
pub record Seen (A : Type 0) : Type 0 where
  pub told : Option A
  pub faults : ℕ

-- a device as it is seen, by what its trait says of it
abbrev pub seen : {X A : Type 0} → (X → Option A) → (X → ℕ) → X → Seen A
seen told faults device = record { told = told device; faults = faults device }
