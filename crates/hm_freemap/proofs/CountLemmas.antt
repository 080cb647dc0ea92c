-- Counts of the elements of a list that pass a test.
use Rattle.std.proofs.Common.{◌≡◌, Bool, true, false, ℕ, zero, suc, ◌+◌, ◌<◌, ◌≤◌, ⊎_elim, List, ◌∷◌, ◌++◌, refl, ap, arith, cond, nat_eq, eq-eqb}
use mir.Val.{bool_byte}
use Rattle.std.specs.Prelude.{count_by}
use Rattle.std.specs.List.{range_with_len}
use Rattle.std.proofs.lemmas.Bool.{cases_eq}
use Rattle.std.proofs.lemmas.List.Sums.{sum_by-append, sum_by-cons}
use Rattle.hm_freemap.proofs.PutLemmas.{other_test}

-- 1 where a test passes, else 0
abbrev pub bit : Bool → ℕ
bit b = cond b 1 0

pub count-cons : {X : Type 0} (p : X → Bool) (x : X) (xs : List X) → count_by p (x ∷ xs) ≡ bit (p x) + count_by p xs
count-cons p x xs = sum_by-cons (λ y. cond (p y) 1 0) x xs

pub count-append : {X : Type 0} (p : X → Bool) (xs ys : List X) → count_by p (xs ++ ys) ≡ count_by p xs + count_by p ys
count-append p xs ys = sum_by-append (λ x. cond (p x) 1 0) xs ys

pub count-range : (p : ℕ → Bool) (a n : ℕ) → count_by p (range_with_len a (suc n)) ≡ bit (p a) + count_by p (range_with_len (a + 1) n)
count-range p a n = count-cons p a (range_with_len (a + 1) n)

-- two tests that agree from one number to before another
pub count_same : (p q : ℕ → Bool) (a n : ℕ) → ((b : ℕ) → a ≤ b → b < a + n → p b ≡ q b) → count_by p (range_with_len a n) ≡ count_by q (range_with_len a n)
count_same p q a zero same = refl
count_same p q a (suc n) same =
    let first : bit (p a) ≡ bit (q a) = ap bit (same a (omega arith) (omega arith)) in
    let rest = count_same p q (a + 1) n (λ b low high. same b (omega arith) (omega arith)) in
    let here = count-range p a n in
    let there = count-range q a n in
    omega (arith, first, rest, here, there)

pub bit_one : (b : Bool) → bit b ≤ 1
bit_one true = omega arith
bit_one false = omega arith

-- sums of tests over a range, from what they are at each number
pub pair_more : (p q e f : ℕ → Bool) (a n : ℕ) → ((x : ℕ) → bit (q x) + bit (e x) ≤ bit (p x) + bit (f x))
    → count_by q (range_with_len a n) + count_by e (range_with_len a n) ≤ count_by p (range_with_len a n) + count_by f (range_with_len a n)
pair_more p q e f a zero each = omega arith
pair_more p q e f a (suc n) each =
    let rest = pair_more p q e f (a + 1) n each in
    omega (arith, each a, rest, count-range p a n, count-range q a n, count-range e a n, count-range f a n)

pub pair_less : (p q e : ℕ → Bool) (a n : ℕ) → ((x : ℕ) → bit (p x) ≤ bit (q x) + bit (e x))
    → count_by p (range_with_len a n) ≤ count_by q (range_with_len a n) + count_by e (range_with_len a n)
pair_less p q e a zero each = omega arith
pair_less p q e a (suc n) each =
    let rest = pair_less p q e (a + 1) n each in
    omega (arith, each a, rest, count-range p a n, count-range q a n, count-range e a n)

-- a test for one number
abbrev pub is_one : ℕ → ℕ → Bool
is_one b x = nat_eq x b

none_before : (b a n : ℕ) → b < a → count_by (is_one b) (range_with_len a n) ≡ 0
none_before b a zero low = refl
none_before b a (suc n) low =
    let first : bit (is_one b a) ≡ 0 = ap bit (other_test a b (λ same. absurd (omega (arith, same)))) in
    let rest = none_before b (a + 1) n (omega arith) in
    omega (arith, first, rest, count-range (is_one b) a n)

pub one_there : (b a n : ℕ) → a ≤ b → b < a + n → count_by (is_one b) (range_with_len a n) ≡ 1
one_there b a zero low high = absurd (omega arith)
one_there b a (suc n) low high = ⊎_elim
    (λ (same : a ≡ b).
    let first : bit (is_one b a) ≡ 1 = ap bit (eq-eqb a b same) in
    let rest = none_before b (a + 1) n (omega (arith, same)) in
    omega (arith, first, rest, count-range (is_one b) a n))
    (λ other.
    let first : bit (is_one b a) ≡ 0 = ap bit (other_test a b other) in
    let rest = one_there b (a + 1) n (omega (arith, other)) (omega arith) in
    omega (arith, first, rest, count-range (is_one b) a n))
    (cases_eq a b)

pub one_most : (b a n : ℕ) → count_by (is_one b) (range_with_len a n) ≤ 1
one_most b a zero = omega arith
one_most b a (suc n) = ⊎_elim
    (λ (same : a ≡ b).
    let first : bit (is_one b a) ≡ 1 = ap bit (eq-eqb a b same) in
    let rest = none_before b (a + 1) n (omega (arith, same)) in
    omega (arith, first, rest, count-range (is_one b) a n))
    (λ other.
    let first : bit (is_one b a) ≡ 0 = ap bit (other_test a b other) in
    let rest = one_most b (a + 1) n in
    omega (arith, first, rest, count-range (is_one b) a n))
    (cases_eq a b)

-- a test that is passed wherever another one is
pub count_less : (p q : ℕ → Bool) (a n : ℕ) → ((x : ℕ) → p x ≡ true → q x ≡ true) → count_by p (range_with_len a n) ≤ count_by q (range_with_len a n)
count_less p q a zero passes = omega arith
count_less p q a (suc n) passes =
    let first : bit (p a) ≤ bit (q a) = below (p a) refl in
    omega (arith, first, count_less p q (a + 1) n passes, count-range p a n, count-range q a n) where
      below : (b : Bool) → p a ≡ b → bit b ≤ bit (q a)
      below true is = let one : bit (q a) ≡ 1 = ap bit (passes a is) in omega (arith, one)
      below false is = omega arith

-- a truth value as a number
pub bool_bit : (b : Bool) → bool_byte b ≡ bit b
bool_bit true = refl
bool_bit false = refl
