-- Parts of lists of numbers.
use Rattle.std.proofs.Common.{◌≡◌, ℕ, ◌+◌, ◌-◌, ◌<◌, ◌≤◌, List, drop, length, sym, ◌∙◌, arith, get_or-drop, get_or-take, length-drop, length-take}
use Rattle.std.specs.Prelude.{slice_index, slice_range}
use Rattle.std.proofs.lemmas.Grind.{same_number_lists}

-- a number of a part
pub part_at : (xs : List ℕ) (from to k : ℕ) → k < to - from → slice_index (slice_range xs from to) k ≡ slice_index xs (from + k)
part_at xs from to k few = get_or-take (to - from) (drop from xs) k 0 few ∙ get_or-drop from xs k 0

-- the part of a list that has these numbers
pub part_is : (xs part : List ℕ) (from to : ℕ) → length part ≡ to - from → to ≤ length xs
    → ((k : ℕ) → k < length part → slice_index xs (from + k) ≡ slice_index part k) → slice_range xs from to ≡ part
part_is xs part from to size fits same =
    let long : length (slice_range xs from to) ≡ to - from = simp (length-take, length-drop) (omega arith) in
    same_number_lists (slice_range xs from to) part (long ∙ sym size)
    (λ k below. part_at xs from to k (omega arith) ∙ same k (omega arith))

-- parts of two lists that have the same numbers there
pub part_same : (old new : List ℕ) (from to : ℕ) → length new ≡ length old
    → ((i : ℕ) → from ≤ i → i < to → slice_index new i ≡ slice_index old i) → slice_range new from to ≡ slice_range old from to
part_same old new from to size same =
    same_number_lists (slice_range new from to) (slice_range old from to) (simp (length-take, length-drop) (omega arith))
    (λ k below.
    let within : k < to - from = omega (arith, length-take (to - from) (drop from new)) in
    part_at new from to k within ∙ same (from + k) (omega arith) (omega arith) ∙ sym (part_at old from to k within))
