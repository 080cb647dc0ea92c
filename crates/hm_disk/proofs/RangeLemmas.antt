-- Parts of ranges.
use Rattle.std.proofs.Common.{◌≡◌, ℕ, ◌+◌, ◌≤◌, List, arith, slice_range}
use Rattle.std.proofs.lemmas.List.{places, ext_get_or}

-- a part of a part
pub part_of_part : (xs : List ℕ) (p n a b : ℕ) → a ≤ b → b ≤ n → slice_range (slice_range xs p (p + n)) a b ≡ slice_range xs (p + a) (p + b)
part_of_part xs p n a b rising within =
    ext_get_or 0 (slice_range (slice_range xs p (p + n)) a b) (slice_range xs (p + a) (p + b)) (grind (arith, places)) (λ i below. grind (arith, places))
