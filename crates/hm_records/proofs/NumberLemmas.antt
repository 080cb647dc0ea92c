-- Numbers of 8 bytes.
use Rattle.std.proofs.Common.{◌≡◌, ℕ, ◌+◌, ◌^◌, ◌<◌, ◌≤◌, List, ◌++◌, length, take, drop, slice_index, sym, ap, ◌∙◌, inl, inr, arith, length-take}
use Rattle.std.proofs.lemmas.Bool.{cases_lt}
use Rattle.std.proofs.lemmas.List.{drop_at, take-append-drop, length-take-le, get_or-take, get_or-drop, get_or_past}
use Rattle.std.proofs.lemmas.Nat.{le_bytes_8}
use Rattle.byteorder.specs.Endian.{little_bytes, little_number}
use Rattle.byteorder.specs.Numbers.{little_from-take, little_number-reads_back, length-bytes_low_first}

-- each item of a list is a byte
abbrev pub AreSmall : List ℕ → Type 0
AreSmall xs = (k : ℕ) → slice_index xs k < 256

AreSmall-take : (n : ℕ) (xs : List ℕ) → AreSmall xs → AreSmall (take n xs)
AreSmall-take n xs small k =
    elim (cases_lt k n) [
      | inl lt ↦ rw (get_or-take n xs k 0 lt) (small k)
      | inr le ↦ rw (get_or_past (take n xs) k 0 (omega (arith, length-take n xs))) (omega arith)
    ]

pub AreSmall-drop : (n : ℕ) (xs : List ℕ) → AreSmall xs → AreSmall (drop n xs)
AreSmall-drop n xs small k = rw (get_or-drop n xs k 0) (small (n + k))

-- bytes that are read as a number and written again
pub written_back : (xs : List ℕ) → AreSmall xs → length xs ≡ 8 → little_bytes 8 (little_number 8 xs) ≡ xs
written_back xs small long = le_bytes_8 xs (little_number 8 xs) long small (omega arith)

-- the number at the front, and what follows it
pub number_front : (xs : List ℕ) → AreSmall xs → 8 ≤ length xs
    → xs ≡ little_bytes 8 (little_number 8 (take 8 xs)) ++ drop 8 xs
number_front xs small long =
    let front = written_back (take 8 xs) (AreSmall-take 8 xs small) (length-take-le 8 xs long) in
    sym (take-append-drop 8 xs) ∙ ap (λ (ys : List ℕ). ys ++ drop 8 xs) (sym front)

-- a number that was written is read again
pub number_back : (n : ℕ) (rest : List ℕ) → n < 2 ^ 64 → little_number 8 (take 8 (little_bytes 8 n ++ rest)) ≡ n
number_back n rest fits = little_from-take 0 8 8 (little_bytes 8 n ++ rest) (omega arith) ∙ little_number-reads_back 8 n rest fits

-- what follows a number that was written
pub after_number : (n : ℕ) (rest : List ℕ) → drop 8 (little_bytes 8 n ++ rest) ≡ rest
after_number n rest = drop_at (little_bytes 8 n) rest 8 (length-bytes_low_first 0 8 n)
