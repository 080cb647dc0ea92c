use Rattle.std.proofs.Common.{ℕ, ◌<◌}
use Rattle.hm_load.specs.Layer1.{IsInPiece}
use Rattle.hm_load.proofs.layer1.first_wrong.Given as goal

-- the first entries are right
abbrev pub invariant-loop-k : goal.invariant-loop-k
invariant-loop-k l = (j : ℕ) → j < l.k → IsInPiece l.bigblocks l.first l.bytes j
