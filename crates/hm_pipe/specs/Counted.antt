-- A reader or a writer whose faults are counted.
use Rattle.std.specs.Prelude.{ℕ}

-- what is read or written, and how many of its calls failed
pub record Counted (I : Type 0) : Type 0 where
  pub inner : I
  pub faults : ℕ
