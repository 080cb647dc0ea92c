-- What the number in a field says of its bytes.
use Rattle.std.proofs.Common.{◌≡◌, ℕ, zero, suc, ◌+◌, ◌<◌, ◌≤◌, inl, inr, List, [], ◌∷◌, length, slice_index, refl, arith}
use Rattle.std.proofs.lemmas.Bool.{cases_lt}
use Rattle.byteorder.specs.Endian.{little_from}
use Rattle.hm_fields.specs.Fields.{get, AreBytes}

index_zero : (at n : ℕ) (xs : List ℕ) → little_from at n xs ≡ 0 → (k : ℕ) → at ≤ k → k < at + n → slice_index xs k ≡ 0
index_zero at zero xs none k low high = absurd (omega arith)
index_zero at (suc n) xs none k low high =
    elim (cases_lt at k) [
      | inl later ↦ index_zero (suc at) n xs (omega arith) k (omega arith) (omega arith)
      | inr here ↦ let same : k ≡ at = omega arith in rw same (omega arith)
    ]

little_from-zero : (at n : ℕ) (xs : List ℕ) → ((k : ℕ) → at ≤ k → k < at + n → slice_index xs k ≡ 0) → little_from at n xs ≡ 0
little_from-zero at zero xs each = refl
little_from-zero at (suc n) xs each =
    let byte = each at (omega arith) (omega arith) in
    let rest = little_from-zero (suc at) n xs (λ k low high. each k (omega arith) (omega arith)) in
    rw (byte, rest) refl

-- the bytes of a field that is 0
pub zero_bytes : (page : List ℕ) (at size : ℕ) → get page at size ≡ 0 → (k : ℕ) → at ≤ k → k < at + size → get page k 1 ≡ 0
unfolding get
zero_bytes page at size none k low high =
    let byte = index_zero at size page none k low high in omega arith

-- a field whose bytes are 0
pub zero_field : (page : List ℕ) (at size : ℕ) → ((k : ℕ) → at ≤ k → k < at + size → get page k 1 ≡ 0) → get page at size ≡ 0
unfolding get
zero_field page at size each =
    little_from-zero at size page (λ k low high. let byte = each k low high in omega arith)

index_same : (at n : ℕ) (xs ys : List ℕ) → ((k : ℕ) → slice_index xs k < 256) → ((k : ℕ) → slice_index ys k < 256)
    → little_from at n xs ≡ little_from at n ys → (k : ℕ) → at ≤ k → k < at + n → slice_index xs k ≡ slice_index ys k
index_same at zero xs ys x y same k low high = absurd (omega arith)
index_same at (suc n) xs ys x y same k low high =
    let a = x at in
    let b = y at in
    let byte : slice_index xs at ≡ slice_index ys at = omega arith in
    elim (cases_lt at k) [
      | inl later ↦ index_same (suc at) n xs ys x y (omega arith) k (omega arith) (omega arith)
      | inr here ↦ let is : k ≡ at = omega arith in rw is byte
    ]

-- a field fixes its bytes
pub same_bytes : (p q : List ℕ) (at size : ℕ) → AreBytes p → AreBytes q → get p at size ≡ get q at size
    → (k : ℕ) → at ≤ k → k < at + size → get p k 1 ≡ get q k 1
unfolding get
same_bytes p q at size x y same k low high =
    let byte = index_same at size p q (λ j. let b = x j in omega arith) (λ j. let b = y j in omega arith) same k low high in
    omega arith

same_index : (xs ys : List ℕ) → length xs ≡ length ys → ((k : ℕ) → k < length xs → slice_index xs k ≡ slice_index ys k) → xs ≡ ys
same_index [] [] sized each = refl
same_index [] (y ∷ ys) sized each = absurd cc
same_index (x ∷ xs) [] sized each = absurd cc
same_index (x ∷ xs) (y ∷ ys) sized each =
    let first : x ≡ y = each 0 (omega arith) in
    let rest : xs ≡ ys = same_index xs ys (omega arith) (λ k low. each (suc k) (omega arith)) in
    rw (first, rest) refl

-- the bytes of a page make it
pub same_page : (p q : List ℕ) → length p ≡ length q → ((k : ℕ) → k < length p → get p k 1 ≡ get q k 1) → p ≡ q
unfolding get
same_page p q sized each = same_index p q sized (λ k low. let byte = each k low in omega arith)
