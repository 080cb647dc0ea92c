use Rattle.std.proofs.Common.{ℕ, ◌+◌, ◌*◌, ◌<◌}
use Rattle.hm_load.specs.Freemap.{HoldsEntryOf}
use Rattle.hm_load.proofs.layer2.are_entries.Given as goal

-- so are the first entries
abbrev pub invariant-loop-k : goal.invariant-loop-k
invariant-loop-k l = (j : ℕ) → j < l.k → HoldsEntryOf l.header (l.number * 256 + j) l.page
