-- Bytes with a range of them overwritten.
use Rattle.std.proofs.Common.{◌≡◌, ◌⊎◌, inl, inr, ⊎_elim, ℕ, ◌+◌, ◌-◌, ◌<◌, ◌≤◌, List, [], sym, ◌∙◌, arith, length, take, get_or, slice_range}
use Rattle.std.proofs.lemmas.List.{places, ext_get_or}
use Rattle.std.proofs.lemmas.Bool.{cases_lt}
use Rattle.hm_disk.specs.Disk.{overwritten}
pub use Rattle.hm_disk.specs.WriteLaws.{MayLeave-overwritten, get_or-overwritten_out, length-overwritten}

-- a byte that is overwritten
pub get_or-overwritten_in : (old : List ℕ) (place : ℕ) (bytes : List ℕ) (byte : ℕ) → place + length bytes ≤ length old
    → place ≤ byte → byte < place + length bytes → get_or (overwritten old place bytes) byte 0 ≡ get_or bytes (byte - place) 0
get_or-overwritten_in old place bytes byte within from below = grind (arith, places)

-- nothing is overwritten
pub overwritten-none : (old : List ℕ) (place : ℕ) → place ≤ length old → overwritten old place [] ≡ old
overwritten-none old place within =
    ext_get_or 0 (overwritten old place []) old (length-overwritten old place [] (omega arith))
    (λ i below. get_or-overwritten_out old place [] i (omega arith) (omega (arith, length-overwritten old place [] (omega arith)))
    (⊎_elim (λ low. inl low) (λ high. inr (omega arith)) (cases_lt i place)))

-- one piece more of what is overwritten
pub overwritten-more : (old : List ℕ) (place : ℕ) (bytes : List ℕ) (done count : ℕ) → place + length bytes ≤ length old → done + count ≤ length bytes
    → overwritten (overwritten old place (take done bytes)) (place + done) (slice_range bytes done (done + count)) ≡ overwritten old place
    (take (done + count) bytes)
overwritten-more old place bytes done count fits within =
    ext_get_or 0 (overwritten first (place + done) piece) (overwritten old place all) (long ∙ sym whole) (λ i below. each i (omega (arith, long, below)))
  where
    first : List ℕ
    first = overwritten old place (take done bytes)

    piece : List ℕ
    piece = slice_range bytes done (done + count)

    all : List ℕ
    all = take (done + count) bytes

    front : length (take done bytes) ≡ done
    front = grind (arith, places)

    range : length piece ≡ count
    range = grind (arith, places)

    both : length all ≡ done + count
    both = grind (arith, places)

    kept : length first ≡ length old
    kept = length-overwritten old place (take done bytes) (omega (arith, front))

    long : length (overwritten first (place + done) piece) ≡ length old
    long = length-overwritten first (place + done) piece (omega (arith, kept, range)) ∙ kept

    whole : length (overwritten old place all) ≡ length old
    whole = length-overwritten old place all (omega (arith, both))

    out : (i : ℕ) → i < length old → (i < place) ⊎ (place + done + count ≤ i)
        → get_or (overwritten first (place + done) piece) i 0 ≡ get_or (overwritten old place all) i 0
    out i below (inl low) =
        get_or-overwritten_out first (place + done) piece i (omega (arith, kept, range)) (omega (arith, kept)) (inl (omega arith))
        ∙ (get_or-overwritten_out old place (take done bytes) i (omega (arith, front)) below (inl low)
        ∙ sym (get_or-overwritten_out old place all i (omega (arith, both)) below (inl low)))
    out i below (inr high) =
        get_or-overwritten_out first (place + done) piece i (omega (arith, kept, range)) (omega (arith, kept)) (inr (omega (arith, range)))
        ∙ (get_or-overwritten_out old place (take done bytes) i (omega (arith, front)) below (inr (omega (arith, front)))
        ∙ sym (get_or-overwritten_out old place all i (omega (arith, both)) below (inr (omega (arith, both)))))

    early : (i : ℕ) → i < length old → place ≤ i → i < place + done
        → get_or (overwritten first (place + done) piece) i 0 ≡ get_or (overwritten old place all) i 0
    early i below from to =
        let same : get_or (take done bytes) (i - place) 0 ≡ get_or all (i - place) 0 = grind (arith, places) in
        get_or-overwritten_out first (place + done) piece i (omega (arith, kept, range)) (omega (arith, kept)) (inl to)
        ∙ (get_or-overwritten_in old place (take done bytes) i (omega (arith, front)) from (omega (arith, front))
        ∙ (same ∙ sym (get_or-overwritten_in old place all i (omega (arith, both)) from (omega (arith, both)))))

    late : (i : ℕ) → i < length old → place + done ≤ i → i < place + done + count
        → get_or (overwritten first (place + done) piece) i 0 ≡ get_or (overwritten old place all) i 0
    late i below from to =
        let same : get_or piece (i - (place + done)) 0 ≡ get_or all (i - place) 0 = grind (arith, places) in
        get_or-overwritten_in first (place + done) piece i (omega (arith, kept, range)) from (omega (arith, range))
        ∙ (same ∙ sym (get_or-overwritten_in old place all i (omega (arith, both)) (omega arith) (omega (arith, both))))

    each : (i : ℕ) → i < length old → get_or (overwritten first (place + done) piece) i 0 ≡ get_or (overwritten old place all) i 0
    each i below =
        ⊎_elim (λ low. out i below (inl low))
        (λ from. ⊎_elim (λ to. early i below from to)
        (λ past. ⊎_elim (λ to. late i below past to) (λ high. out i below (inr high)) (cases_lt i (place + done + count)))
        (cases_lt i (place + done)))
        (cases_lt i place)
