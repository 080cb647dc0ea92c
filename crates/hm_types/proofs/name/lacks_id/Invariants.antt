use Rattle.std.proofs.Common.{◌≡◌, ◌≢◌, ℕ, ◌+◌, ◌<◌, get_or}
use Rattle.hm_types.specs.Name.{at_sign}
use Rattle.hm_types.proofs.name.lacks_id.Given as goal

-- no `@@` begins before the byte that was looked at last
abbrev pub invariant-loop-i : goal.invariant-loop-i
invariant-loop-i l = (k : ℕ) → k + 1 < l.i → get_or l.bytes k 0 ≡ at_sign → get_or l.bytes (k + 1) 0 ≢ at_sign
