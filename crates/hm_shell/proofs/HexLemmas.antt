-- Hexadecimal digits with zeros before them.
use Rattle.std.proofs.Common.{◌≡◌, ℕ, zero, suc, ◌+◌, ◌-◌, ◌/◌, ◌%◌, ◌^◌, ◌<◌, Bool, true, false, List, []}
use Rattle.std.proofs.Common.{◌∷◌, ◌++◌, drop, length, refl, set, sym, ◌∙◌, ap, arith, eqb, if◌then◌else◌}
use Rattle.std.specs.Fmt.{digit_glyph, digits, digits_onto, padded_integral, char_count}
use Rattle.std.specs.Prelude.{replicate}
use Rattle.std.proofs.lemmas.Bool.Decides.{nat_tests}
use Rattle.std.proofs.lemmas.Grind.{drop-set_at}
use Rattle.hm_types.specs.Id.{hex16}

-- the last k digits of n, followed by acc
abbrev pub fixed_onto : ℕ → ℕ → List ℕ → List ℕ
fixed_onto zero n acc = acc
fixed_onto (suc k) n acc = fixed_onto k (n / 16) (digit_glyph false (n % 16) ∷ acc)

-- k digits are enough for n
abbrev HasDigits : ℕ → ℕ → Type 0
HasDigits zero n = n ≡ 0
HasDigits (suc k) n = HasDigits k (n / 16)

-- some digits after as many zeros as they lack
record IsFilled (size : ℕ) (whole numeral : List ℕ) : Type 0 where
  zeros : ℕ
  whole_is : whole ≡ replicate zeros 48 ++ numeral
  length_is : zeros + length numeral ≡ size

zero_first : (k : ℕ) (acc : List ℕ) → replicate k 48 ++ 48 ∷ acc ≡ 48 ∷ (replicate k 48 ++ acc)
zero_first zero acc = refl
zero_first (suc k) acc = ap (λ xs. 48 ∷ xs) (zero_first k acc)

-- the digits of 0 are zeros
fixed_zero : (k : ℕ) (acc : List ℕ) → fixed_onto k 0 acc ≡ replicate k 48 ++ acc
fixed_zero zero acc = refl
fixed_zero (suc k) acc = fixed_zero k (48 ∷ acc) ∙ zero_first k acc

-- the digits of n, from those of what is left of it
filled_by : (x : Bool) (m k n : ℕ) (acc : List ℕ) → eqb (n / 16) 0 ≡ x → HasDigits (suc k) n →
    ((j : ℕ) → suc j ≡ k → HasDigits (suc j) (n / 16) → IsFilled (suc j + length (digit_glyph false (n % 16) ∷ acc))
    (fixed_onto (suc j) (n / 16) (digit_glyph false (n % 16) ∷ acc)) (digits_onto m 16 false (n / 16) (digit_glyph false (n % 16) ∷ acc))) → IsFilled
    (suc k + length acc) (fixed_onto (suc k) n acc) (digits_onto (suc m) 16 false n acc)
filled_by true m k n acc test has more =
    let none : n / 16 ≡ 0 = grind (arith, nat_tests, test) in
    record {
      zeros = k;
      whole_is = ap (λ r. fixed_onto k r (digit_glyph false (n % 16) ∷ acc)) none ∙ (fixed_zero k (digit_glyph false (n % 16) ∷ acc) ∙ ap
          (λ b. replicate k 48 ++ (if b then digit_glyph false (n % 16) ∷ acc else digits_onto m 16 false (n / 16) (digit_glyph false (n % 16) ∷ acc)))
          (sym test));
      length_is = ap (λ b. k + length (if b then digit_glyph false (n % 16) ∷ acc else digits_onto m 16 false (n / 16) (digit_glyph false (n % 16) ∷ acc)))
          test ∙ omega arith;
    }
filled_by false m zero n acc test has more = let some : eqb (n / 16) 0 ≡ true = grind (arith, nat_tests, has) in absurd (cc)
filled_by false m (suc j) n acc test has more =
    let rest = more j refl has in
    record {
      zeros = rest.zeros;
      whole_is = rest.whole_is ∙ ap (λ b. replicate rest.zeros 48 ++ (if b then digit_glyph false (n % 16) ∷ acc else digits_onto m 16 false (n / 16)
          (digit_glyph false (n % 16) ∷ acc))) (sym test);
      length_is = ap (λ b. rest.zeros + length (if b then digit_glyph false (n % 16) ∷ acc else digits_onto m 16 false (n / 16)
          (digit_glyph false (n % 16) ∷ acc))) test ∙ (rest.length_is ∙ omega arith);
    }

filled : (m k n : ℕ) (acc : List ℕ) → k < m → HasDigits (suc k) n → IsFilled (suc k + length acc) (fixed_onto (suc k) n acc) (digits_onto m 16 false n acc)
filled zero k n acc within has = absurd (omega arith)
filled (suc m) k n acc within has =
    filled_by (eqb (n / 16) 0) m k n acc refl has (λ j is more. filled m j (n / 16) (digit_glyph false (n % 16) ∷ acc) (omega (arith, is)) more)

append-none : (xs : List ℕ) → xs ++ [] ≡ xs
append-none [] = refl
append-none (x ∷ xs) = ap (λ ys. x ∷ ys) (append-none xs)

hex16_is : (n : ℕ) → hex16 n ≡ replicate (16 - length (digits 16 false n)) 48 ++ digits 16 false n
unfolding padded_integral char_count
hex16_is n =
    let len : ℕ = length (digits 16 false n) in
    let width : 16 - len - 0 - 0 ≡ 16 - len = omega arith in
    ap (λ z. replicate z 48 ++ (digits 16 false n ++ [])) width ∙ ap (λ xs. replicate (16 - len) 48 ++ xs) (append-none (digits 16 false n))

digits_are : (n : ℕ) → digits 16 false n ≡ digits_onto 64 16 false n []
unfolding digits
digits_are n = refl

-- sixteen digits of a number of 64 bits are what is written of it
pub fixed_is_hex16 : (n : ℕ) → n < 2 ^ 64 → fixed_onto 16 n [] ≡ hex16 n
fixed_is_hex16 n small =
    let has : HasDigits 16 n = omega arith in
    let whole = filled 64 15 n [] (omega arith) has in
    let zeros_are : whole.zeros ≡ 16 - length (digits_onto 64 16 false n []) = omega (arith, whole.length_is) in
    sym (hex16_is n ∙ (ap (λ ds. replicate (16 - length ds) 48 ++ ds) (digits_are n) ∙ (ap (λ z. replicate z 48 ++ digits_onto 64 16 false n [])
    (sym zeros_are) ∙ sym whole.whole_is)))

-- one more digit at the front of those that stand there
pub next_digit : (number rest : ℕ) (digits : List ℕ) (done digit : ℕ) → done < 16 → length digits ≡ 16 → digit ≡ digit_glyph false (rest % 16) → fixed_onto
    (16 - done) rest (drop (16 - done) digits) ≡ fixed_onto 16 number [] → fixed_onto (16 - (done + 1)) (rest / 16)
    (drop (16 - (done + 1)) (set digits (15 - done) digit)) ≡ fixed_onto 16 number []
next_digit number rest digits done digit within long is so_far =
    let k : ℕ = 15 - done in
    let first : 16 - (done + 1) ≡ 15 - done = omega arith in
    let before : 16 - done ≡ suc (15 - done) = omega arith in
    let one : drop (16 - (done + 1)) (set digits (15 - done) digit) ≡ digit ∷ drop (15 - done + 1) digits =
    drop-set_at digits (15 - done) (16 - (done + 1)) digit first (omega (arith, long)) in
    let after : 15 - done + 1 ≡ 16 - done = omega arith in
    let there : drop (16 - (done + 1)) (set digits (15 - done) digit) ≡ digit_glyph false (rest % 16) ∷ drop (16 - done) digits =
    one ∙ (ap (λ d. d ∷ drop (15 - done + 1) digits) is ∙ ap (λ n. digit_glyph false (rest % 16) ∷ drop n digits) after) in
    ap (λ xs. fixed_onto (16 - (done + 1)) (rest / 16) xs) there ∙ (ap (λ j. fixed_onto j (rest / 16)
    (digit_glyph false (rest % 16) ∷ drop (16 - done) digits)) first ∙ (ap (λ j. fixed_onto j rest (drop (16 - done) digits)) (sym before) ∙ so_far))
