-- What is free of a big-block as bytes of it become live or free.
use Rattle.std.proofs.Common.{◌≡◌, ℕ, ◌+◌, ◌≤◌, min, ap, arith, ℤ, pos, negsuc, ◌+ℤ◌, ◌-ℤ◌}
use Rattle.std.specs.Int.{w32, saturate_signed}
use Rattle.std.proofs.lemmas.Int.{ints}
use Rattle.hm_types.specs.declared.limits.TheConstants.{BIGBLOCK_BYTES}
use Rattle.hm_freemap.specs.Change.{fitted, fewer, more}

-- what is free, where not too much is live, fits its field
saturated : (free : ℤ) (live : ℕ) → free +ℤ pos live ≡ pos BIGBLOCK_BYTES → live ≤ 536870912 → saturate_signed w32 free ≡ free
saturated (pos n) live is few = let fits : min n 2147483647 ≡ n = omega (arith, ints) in ap pos fits
saturated (negsuc n) live is few = let fits : min n 2147483647 ≡ n = omega (arith, ints) in ap negsuc fits

fits : (size : ℕ) → size ≤ 536870912 → fitted size ≡ size
fits size few = omega arith

pub free_less : (free : ℤ) (size live : ℕ) → free +ℤ pos live ≡ pos BIGBLOCK_BYTES → size + live ≤ 536870912
    → fewer free size +ℤ pos (size + live) ≡ pos BIGBLOCK_BYTES
free_less free size live is few =
    let small = fits size (omega arith) in
    let sum : (free -ℤ pos size) +ℤ pos (size + live) ≡ pos BIGBLOCK_BYTES = omega (arith, ints) in
    rw (small, saturated (free -ℤ pos size) (size + live) sum few) sum

pub free_more : (free : ℤ) (size live : ℕ) → free +ℤ pos (size + live) ≡ pos BIGBLOCK_BYTES → size + live ≤ 536870912
    → more free size +ℤ pos live ≡ pos BIGBLOCK_BYTES
free_more free size live is few =
    let small = fits size (omega arith) in
    let sum : (free +ℤ pos size) +ℤ pos live ≡ pos BIGBLOCK_BYTES = omega (arith, ints) in
    rw (small, saturated (free +ℤ pos size) live sum (omega arith)) sum
