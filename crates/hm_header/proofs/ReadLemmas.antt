-- Reading the slots of a disk.
use Rattle.std.proofs.Common.{◌≡◌, ℕ, ◌+◌, ◌-◌, ◌<◌, ◌≤◌, min, List, ◌++◌, sym, ap, subst}
use Rattle.std.proofs.Common.{◌∙◌, arith, length, take, drop, get_or, slice_range, Option, Some, None, IfSome}
use Rattle.std.proofs.lemmas.List.{places, ext_get_or, take_at}
use Rattle.hm_disk.specs.Crash.{Told}
use Rattle.hm_header.specs.OnDisk.{first_slot, second_slot}

-- so many bytes as there are, of at most that many
take-most : (bytes : List ℕ) (count most : ℕ) → count ≡ min (length bytes) most → take count bytes ≡ take most bytes
take-most bytes count most is =
    ext_get_or 0 (take count bytes) (take most bytes) (grind (arith, places)) (λ i below. each i (short i below))
  where
    short : (i : ℕ) → i < length (take count bytes) → (i < count) × (i < most)
    short i below =
        let low : i < count = grind (arith, places) in
        (low, omega (arith, low, is))

    each : (i : ℕ) → (i < count) × (i < most) → get_or (take count bytes) i 0 ≡ get_or (take most bytes) i 0
    each i low =
        let early = low.0 in
        let late = low.1 in
        grind (arith, places)

-- the first part of what was read of two parts
first-part : (bytes : List ℕ) (half one both : ℕ) → one ≤ both → half ≡ min (min (length bytes) both) one → take half (take both bytes) ≡ take one bytes
first-part bytes half one both order is =
    ext_get_or 0 (take half (take both bytes)) (take one bytes) (grind (arith, places)) (λ i below. each i (short i below))
  where
    short : (i : ℕ) → i < length (take half (take both bytes)) → i < half
    short i below = grind (arith, places)

    each : (i : ℕ) → i < half → get_or (take half (take both bytes)) i 0 ≡ get_or (take one bytes) i 0
    each i low = grind (arith, places)

-- and the second one
second-part : (bytes : List ℕ) (half one both : ℕ) → one ≤ both → half ≡ min (min (length bytes) both) one
    → drop half (take both bytes) ≡ slice_range bytes one both
second-part bytes half one both order is =
    ext_get_or 0 (drop half (take both bytes)) (slice_range bytes one both) sizes (λ i below. each i (short i below))
  where
    sizes : length (drop half (take both bytes)) ≡ length (slice_range bytes one both)
    sizes = grind (arith, places)

    short : (i : ℕ) → i < length (drop half (take both bytes)) → (half ≡ one) × (i < both - one)
    short i below =
        let long : i + half < min both (length bytes) = grind (arith, places) in
        (omega (arith, long, is, order), omega (arith, long, is, order))

    each : (i : ℕ) → (half ≡ one) × (i < both - one) → get_or (drop half (take both bytes)) i 0 ≡ get_or (slice_range bytes one both) i 0
    each i at =
        let here = at.0 in
        let low = at.1 in
        grind (arith, places)

-- both slots were read, or as much of them as there is
pub slots-filled : (told : Option Told) (size count : ℕ) (old piece : List ℕ) → length old ≡ 32768 → count ≡ min size 32768
    → IfSome told (λ t. size ≡ length t.bytes) → IfSome told (λ t. piece ≡ slice_range t.bytes 0 (0 + length (take count old)))
    → IfSome told (λ t. take (min size 32768) (piece ++ drop count old) ≡ take 32768 t.bytes)
slots-filled None size count old piece sized is long read = tt
slots-filled (Some t) size count old piece sized is long read =
    ap (λ n. take n (piece ++ drop count old)) (sym is) ∙ (take_at piece (drop count old) count whole
    ∙ (read ∙ (ap (λ n. slice_range t.bytes 0 (0 + n)) asked
    ∙ (ap (λ n. take n t.bytes) none ∙ take-most t.bytes count 32768 (is ∙ ap (λ n. min n 32768) long)))))
  where
    none : 0 + count - 0 ≡ count
    none = omega arith

    asked : length (take count old) ≡ count
    asked = grind (arith, places)

    taken : (n : ℕ) → n ≤ length t.bytes → length (slice_range t.bytes 0 (0 + n)) ≡ n
    taken n within = grind (arith, places)

    whole : length piece ≡ count
    whole = ap (λ (bs : List ℕ). length bs) read ∙ (ap (λ n. length (slice_range t.bytes 0 (0 + n))) asked ∙ taken count (omega (arith, is, long)))

-- what is said of the parts of what was read holds of the two slots
pub slots-read : (P : List ℕ → List ℕ → ℕ → Type 0) (bytes slots first second : List ℕ) (size count half : ℕ)
    → size ≡ length bytes → take (min size 32768) slots ≡ take 32768 bytes → count ≡ min size 32768 → half ≡ min count 16384
    → first ≡ take half (take count slots) → second ≡ drop half (take count slots)
    → P first second size → P (first_slot bytes) (second_slot bytes) (length bytes)
slots-read P bytes slots first second size count half sized same counted halved first_is second_is p =
    subst (λ (f : List ℕ). P f (second_slot bytes) (length bytes))
    (first_is ∙ (ap (λ (bs : List ℕ). take half bs) read ∙ first-part bytes half 16384 32768 (omega arith) at))
    (subst (λ (s : List ℕ). P first s (length bytes))
    (second_is ∙ (ap (λ (bs : List ℕ). drop half bs) read ∙ second-part bytes half 16384 32768 (omega arith) at))
    (subst (λ n. P first second n) sized p))
  where
    read : take count slots ≡ take 32768 bytes
    read = ap (λ n. take n slots) counted ∙ same

    at : half ≡ min (min (length bytes) 32768) 16384
    at = halved ∙ ap (λ n. min n 16384) (counted ∙ ap (λ n. min n 32768) sized)
