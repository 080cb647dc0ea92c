-- Parts of ranges that were read.
use Rattle.std.proofs.Common.{◌≡◌, ℕ, ◌+◌, ◌-◌, ◌≤◌, List, ap, ◌∙◌, arith, append-nil, slice_range}
use Rattle.hm_types.specs.Layout.{start_of}
use Rattle.hm_disk.proofs.RangeLemmas.{part_of_part}
use Rattle.hm_load.specs.Reading.{inside, volume_bytes}

-- a range inside the volume
pub all_inside : (image : List ℕ) (bigblocks place len : ℕ) → place + len ≤ start_of bigblocks
    → volume_bytes image bigblocks place len ≡ slice_range image place (place + len)
all_inside image bigblocks place len low =
    let whole : inside bigblocks place len ≡ len = omega arith in
    let none : len - inside bigblocks place len ≡ 0 = omega arith in
    rw (none, whole) (append-nil (slice_range image place (place + len)))

-- so a part of a range that was read is one of the volume
pub part_read : (image bytes : List ℕ) (bigblocks place n a b : ℕ) → bytes ≡ volume_bytes image bigblocks place n → place + n ≤ start_of bigblocks
    → a ≤ b → b ≤ n
    → slice_range bytes a b ≡ slice_range image (place + a) (place + b)
part_read image bytes bigblocks place n a b same low rising within =
    ap (λ (xs : List ℕ). slice_range xs a b) (same ∙ all_inside image bigblocks place n low) ∙ part_of_part image place n a b rising within
