-- How many bytes of a big-block are free, as a sum and as a difference.
use Rattle.std.proofs.Common.{◌≡◌, ℕ, ◌<◌, ◌≤◌, arith, ℤ, pos, negsuc, ◌+ℤ◌, ◌-ℤ◌}
use Rattle.std.specs.Prelude.{FitsSigned}
use Rattle.std.specs.Int.{w32}
use Rattle.std.proofs.lemmas.Int.{ints}
use Rattle.hm_types.specs.declared.limits.TheConstants.{BIGBLOCK_BYTES}

pub free_sum : (free : ℤ) (live : ℕ) → free ≡ pos BIGBLOCK_BYTES -ℤ pos live → free +ℤ pos live ≡ pos BIGBLOCK_BYTES
free_sum free live is = omega (arith, ints)

pub free_rest : (free : ℤ) (live : ℕ) → free +ℤ pos live ≡ pos BIGBLOCK_BYTES → free ≡ pos BIGBLOCK_BYTES -ℤ pos live
free_rest free live is = omega (arith, ints)

-- where not too much is live, it fits its field
pub free_fits : (free : ℤ) (live : ℕ) → free +ℤ pos live ≡ pos BIGBLOCK_BYTES → live ≤ 536870912 → FitsSigned w32 free
free_fits (pos n) live is few = let small : n < 2147483648 = omega (arith, ints) in record { sfits = small }
free_fits (negsuc n) live is few = let small : n < 2147483648 = omega (arith, ints) in record { sfits = small }
