use Rattle.std.proofs.Common.{◌≡◌, ℕ, ◌+◌, ◌<◌, slice_index}
use Rattle.hm_load.proofs.layer2.is_zone.Given as goal

-- it is so for the first zones
abbrev pub invariant-loop-k : goal.invariant-loop-k
invariant-loop-k l = (j : ℕ) → j < l.k → slice_index l.header.append j ≡ l.block → l.zone ≡ 8 + j
