-- Ranges of bytes that changed elsewhere, or were overwritten.
use Rattle.std.proofs.Common.{◌≡◌, ◌⊎◌, inl, inr, ℕ, ◌+◌, ◌-◌, ◌<◌, ◌≤◌, List, [], ◌∷◌, sym, ◌∙◌, arith, length, get_or, slice_range}
use Rattle.std.proofs.lemmas.List.{places, ext_get_or}
use Rattle.hm_disk.specs.Crash.{MayLeave}
use Rattle.hm_disk.specs.Disk.{overwritten}

-- a byte of a range
pub slice-byte : (bytes : List ℕ) (from to i : ℕ) → i < to - from → get_or (slice_range bytes from to) i 0 ≡ get_or bytes (from + i) 0
slice-byte bytes from to i below = grind (arith, places)

-- a range inside the bytes
pub length-slice : (bytes : List ℕ) (from to : ℕ) → to ≤ length bytes → length (slice_range bytes from to) ≡ to - from
length-slice bytes from to within = grind (arith, places)

-- two lists that agree in a range
pub slice-same : (old new : List ℕ) (from to : ℕ) → length new ≡ length old
    → ((i : ℕ) → i < to - from → from + i < length old → get_or new (from + i) 0 ≡ get_or old (from + i) 0)
    → slice_range new from to ≡ slice_range old from to
slice-same old new from to size same =
    ext_get_or 0 (slice_range new from to) (slice_range old from to) sizes each
  where
    sizes : length (slice_range new from to) ≡ length (slice_range old from to)
    sizes = grind (arith, places)

    short : (i : ℕ) → i < length (slice_range new from to) → i < to - from
    short i below = grind (arith, places)

    inside : (i : ℕ) → i < length (slice_range new from to) → from + i < length old
    inside i below = grind (arith, places)

    each : (i : ℕ) → i < length (slice_range new from to) → get_or (slice_range new from to) i 0 ≡ get_or (slice_range old from to) i 0
    each i below = slice-byte new from to i (short i below) ∙ (same i (short i below) (inside i below) ∙ sym (slice-byte old from to i (short i below)))

-- a range outside that which changed
pub slice-kept : (old new : List ℕ) (place count from to : ℕ) → (to ≤ place) ⊎ (place + count ≤ from)
    → MayLeave old ((place, count) ∷ []) new → slice_range new from to ≡ slice_range old from to
slice-kept old new place count from to apart change =
    slice-same old new from to change.size (λ i below inside. change.same (from + i) inside (outside i below apart, tt))
  where
    outside : (i : ℕ) → i < to - from → (to ≤ place) ⊎ (place + count ≤ from) → (from + i < place) ⊎ (place + count ≤ from + i)
    outside i below (inl low) = inl (omega arith)
    outside i below (inr high) = inr (omega arith)

-- a range that was overwritten
pub slice-overwritten : (old : List ℕ) (place : ℕ) (bytes : List ℕ) → place + length bytes ≤ length old
    → slice_range (overwritten old place bytes) place (place + length bytes) ≡ bytes
slice-overwritten old place bytes within =
    ext_get_or 0 (slice_range (overwritten old place bytes) place (place + length bytes)) bytes sizes (λ i below. each i (omega (arith, sizes)))
  where
    sizes : length (slice_range (overwritten old place bytes) place (place + length bytes)) ≡ length bytes
    sizes = grind (arith, places)

    each : (i : ℕ) → i < length bytes → get_or (slice_range (overwritten old place bytes) place (place + length bytes)) i 0 ≡ get_or bytes i 0
    each i below = grind (arith, places)
