-- Calls that are numbered from 1, of which those on a list fail.
use Rattle.std.specs.Prelude.{ℕ, ◌+◌, ◌-◌, ◌^◌, min, List, Contains}

-- the numbers of the calls that fail, how many calls there were, and how many of them failed
pub record Counts : Type 0 where
  pub fails : List ℕ
  pub made : ℕ
  pub faults : ℕ

-- no calls yet, of which these are to fail
abbrev pub no_calls : List ℕ → Counts
no_calls fails = record { fails = fails; made = 0; faults = 0 }

-- a count one higher, or as it was where it stands at the greatest `u64`
abbrev pub raised : ℕ → ℕ
raised count = min (count + 1) (2 ^ 64 - 1)

-- the next call is on the list
abbrev pub IsNextListed : Counts → Type 0
IsNextListed c = Contains c.fails (raised c.made)

-- one more call
abbrev pub called : Counts → Counts
called c = record { fails = c.fails; made = raised c.made; faults = c.faults }

-- one more fault
abbrev pub faulted : Counts → Counts
faulted c = record { fails = c.fails; made = c.made; faults = raised c.faults }
