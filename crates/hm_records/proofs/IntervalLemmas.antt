-- Intervals, and the bytes that spell them.
use Rattle.std.proofs.Common.{◌≡◌, ℕ, ◌+◌, ◌*◌, ◌^◌, ◌<◌, List, [], ◌∷◌, ◌++◌, length, take, drop, refl, sym, ap, ◌∙◌, arith, length-append, length-drop}
use Rattle.std.proofs.lemmas.List.Concat.{flat_map-cons}
use Rattle.byteorder.specs.Endian.{little_bytes, little_number}
use Rattle.hm_retain.specs.Intervals.{RiseFrom}
use Rattle.hm_retain.specs.Retention.{IsRetention}
use Rattle.hm_records.specs.PfsRecord.{AreIds, interval_bytes, intervals_bytes}
use Rattle.hm_records.proofs.NumberLemmas.{AreSmall, AreSmall-drop, number_front, number_back, after_number, written_back}

-- the bytes that are read as an interval spell it
pub interval_read : (xs : List ℕ) (first last : ℕ) → AreSmall xs → length xs ≡ 16 → first ≡ little_number 8 (take 8 xs)
    → last ≡ little_number 8 (drop 8 xs) → xs ≡ interval_bytes (first, last)
unfolding interval_bytes
interval_read xs first last small long is is' =
    let rest = written_back (drop 8 xs) (AreSmall-drop 8 xs small) (omega (arith, length-drop 8 xs)) in
    let both : little_bytes 8 (little_number 8 (take 8 xs)) ++ drop 8 xs ≡ little_bytes 8 first ++ little_bytes 8 last =
    rw (is, is', rest) refl in
    number_front xs small (omega arith) ∙ both

pub length-interval : (x : ℕ × ℕ) → length (interval_bytes x) ≡ 16
unfolding interval_bytes
length-interval x = refl

interval_parts : (x : ℕ × ℕ) (rest : List ℕ) → interval_bytes x ++ rest ≡ little_bytes 8 x.0 ++ (little_bytes 8 x.1 ++ rest)
unfolding interval_bytes
interval_parts x rest = refl

intervals_parts : (x : ℕ × ℕ) (list : List (ℕ × ℕ))
    → intervals_bytes (x ∷ list) ≡ little_bytes 8 x.0 ++ (little_bytes 8 x.1 ++ intervals_bytes list)
intervals_parts x list = flat_map-cons interval_bytes x list ∙ interval_parts x (intervals_bytes list)

-- a number at the front is one number
same_number : (a b : ℕ) (p q : List ℕ) → a < 2 ^ 64 → b < 2 ^ 64 → little_bytes 8 a ++ p ≡ little_bytes 8 b ++ q
    → (a ≡ b) × (p ≡ q)
same_number a b p q fits fits' same = (
  sym (number_back a p fits) ∙ ap (λ (xs : List ℕ). little_number 8 (take 8 xs)) same ∙ number_back b q fits',
  sym (after_number a p) ∙ ap (λ (xs : List ℕ). drop 8 xs) same ∙ after_number b q,
)

pub length-intervals : (list : List (ℕ × ℕ)) → length (intervals_bytes list) ≡ 16 * length list
length-intervals [] = refl
length-intervals (x ∷ list) =
    let rest = length-intervals list in
    ap length (flat_map-cons interval_bytes x list)
    ∙ omega (arith, rest, length-append (interval_bytes x) (intervals_bytes list), length-interval x)

pair_is : (x y : ℕ × ℕ) → x.0 ≡ y.0 → x.1 ≡ y.1 → x ≡ y
pair_is x y first last =
    let all : (x.0, x.1) ≡ (y.0, y.1) = rw (first, last) refl in
    all

-- intervals have one spelling
pub same_intervals : (a b : List (ℕ × ℕ)) → AreIds a → AreIds b → intervals_bytes a ≡ intervals_bytes b → a ≡ b
same_intervals [] [] ids ids' same = refl
same_intervals [] (y ∷ b) ids ids' same = absurd (omega (arith, ap length same, length-intervals (y ∷ b)))
same_intervals (x ∷ a) [] ids ids' same = absurd (omega (arith, ap length same, length-intervals (x ∷ a)))
same_intervals (x ∷ a) (y ∷ b) ids ids' same =
    let left = intervals_parts x a in
    let right = intervals_parts y b in
    let first = same_number x.0 y.0 (little_bytes 8 x.1 ++ intervals_bytes a) (little_bytes 8 y.1 ++ intervals_bytes b)
    ids.0.0 ids'.0.0 (sym left ∙ same ∙ right) in
    let last = same_number x.1 y.1 (intervals_bytes a) (intervals_bytes b) ids.0.1 ids'.0.1 first.1 in
    let head : x ≡ y = pair_is x y first.0 last.0 in
    let tail : a ≡ b = same_intervals a b ids.1 ids'.1 last.1 in
    rw (head, tail) refl

rising_ids : (least : ℕ) (list : List (ℕ × ℕ)) → RiseFrom least list → AreIds list
rising_ids least [] rise = tt
rising_ids least (x ∷ list) rise = ((omega (arith, rise.0.ordered, rise.0.bounded), rise.0.bounded), rising_ids (x.1 + 2) list rise.1)

-- each end of an interval of a retention fits 8 bytes
pub retention_ids : (list : List (ℕ × ℕ)) → IsRetention list → AreIds list
retention_ids list is = rising_ids 0 list is.intervals
