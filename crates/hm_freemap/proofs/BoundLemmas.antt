-- How many bytes of a big-block may be live: each byte is referred to at most 64 times.
use Rattle.std.proofs.Common.{◌≡◌, Bool, true, false, ℕ, zero, suc, ◌+◌, ◌-◌, ◌*◌, ◌<◌, ◌≤◌, max, inl, inr, ⊎_elim, List, [], ◌∷◌, refl, ap, arith}
use Rattle.std.proofs.Common.{cond, ◌&&◌, nat_le, nat_lt, eqb-true, eq-eqb}
use Rattle.std.specs.Prelude.{count_by, All}
use Rattle.std.proofs.lemmas.Bool.{cases_lt}
use Rattle.std.proofs.lemmas.Bool.Decides.{nat_tests}
use Rattle.std.proofs.lemmas.List.Elements.{All-head, All-tail, All-cons, All-weaker}
use Rattle.hm_types.specs.Layout.{block_of, start_of}
use Rattle.hm_types.specs.References.{Reference, begin_of, end_of, IsPlaced, NoneOverlap, DoNotOverlap, AreFew, is_there, is_in, live_bytes}
use Rattle.hm_types.specs.Space.{rounded}
use Rattle.hm_types.specs.declared.limits.TheConstants.{BIGBLOCK_BYTES}
use Rattle.hm_types.specs.declared.space.TheConstants.{MOST_REFERENCES}
use Rattle.hm_freemap.proofs.CountLemmas.{bit, count-cons}

-- the sum of what a function gives at so many numbers
abbrev total : (ℕ → ℕ) → ℕ → ℕ → ℕ
total f a zero = 0
total f a (suc n) = f a + total f (a + 1) n

total-add : (f g h : ℕ → ℕ) (a n : ℕ) → ((x : ℕ) → h x ≡ f x + g x) → total h a n ≡ total f a n + total g a n
total-add f g h a zero is = refl
total-add f g h a (suc n) is = omega (arith, is a, total-add f g h (a + 1) n is)

total-few : (f : ℕ → ℕ) (most a n : ℕ) → ((x : ℕ) → f x ≤ most) → total f a n ≤ most * n
total-few f most a zero few = omega arith
total-few f most a (suc n) few =
    let rest = total-few f most (a + 1) n few in
    let product : most * suc n ≡ most + most * n = grind arith in
    omega (arith, few a, rest, product)

-- whether a byte lies from one place to before another
abbrev within : ℕ → ℕ → ℕ → Bool
within from to x = nat_le from x && nat_lt x to

within_is : (from to x : ℕ) → from ≤ x → x < to → within from to x ≡ true
within_is from to x low high = grind (arith, nat_tests)

is_within : (from to x : ℕ) → within from to x ≡ true → (from ≤ x) × (x < to)
is_within from to x is = grind (arith, nat_tests)

-- as many bytes lie there as their number
total-within : (from to a n : ℕ) → to ≤ a + n → to - max a from ≤ total (λ x. bit (within from to x)) a n
total-within from to a zero end = omega arith
total-within from to a (suc n) end =
    let rest = total-within from to (a + 1) n (omega arith) in
    ⊎_elim
    (λ (before : a < from). omega (arith, rest, before))
    (λ later. ⊎_elim
    (λ (inside : a < to).
    let one : bit (within from to a) ≡ 1 = ap bit (within_is from to a later inside) in
    omega (arith, rest, one, later, inside))
    (λ past. omega (arith, rest, later, past))
    (cases_lt a to))
    (cases_lt a from)

-- whether an extent has a byte
abbrev covers : ℕ → Reference → Bool
covers x r = within (begin_of r) (end_of r) x

-- a placed extent lies in its big-block
pub placed_low : (bigblocks : ℕ) (r : Reference) → IsPlaced bigblocks r → start_of (block_of (begin_of r)) ≤ begin_of r
placed_low bigblocks r placed = omega arith

pub placed_size : (len : ℕ) → 1 ≤ len → 16 ≤ rounded len
placed_size len some = omega arith

pub placed_high : (bigblocks : ℕ) (r : Reference) → IsPlaced bigblocks r → end_of r ≤ start_of (block_of (begin_of r)) + BIGBLOCK_BYTES
placed_high bigblocks r placed =
    let size = placed_size r.len placed.some in
    omega (arith, placed.inside, size)

bit_le : (a b : Bool) → (a ≡ true → b ≡ true) → bit a ≤ bit b
bit_le false b step = omega arith
bit_le true b step = let passed = step refl in rw passed (omega arith)

-- two tests of which the second passes where the first does
count_le : {X : Type 0} (p q : X → Bool) (xs : List X) → All (λ x. p x ≡ true → q x ≡ true) xs → count_by p xs ≤ count_by q xs
count_le p q [] each = omega arith
count_le p q (x ∷ xs) each =
    let here = bit_le (p x) (q x) (All-head (λ y. p y ≡ true → q y ≡ true) x xs each) in
    let rest = count_le p q xs (All-tail (λ y. p y ≡ true → q y ≡ true) x xs each) in
    omega (arith, count-cons p x xs, count-cons q x xs, here, rest)

few_rest : (r : Reference) (rs : List Reference) → AreFew (r ∷ rs) → AreFew rs
few_rest r rs few = All-weaker (λ y. count_by (is_there y) (r ∷ rs) ≤ MOST_REFERENCES) (λ y. count_by (is_there y) rs ≤ MOST_REFERENCES)
    (λ y le. omega (arith, le, count-cons (is_there y) r rs)) rs (All-tail (λ y. count_by (is_there y) (r ∷ rs) ≤ MOST_REFERENCES) r rs few)

-- extents with a byte in common begin at one place
one_there : (x : ℕ) (r s : Reference) → covers x r ≡ true → DoNotOverlap r s → covers x s ≡ true → is_there r s ≡ true
one_there x r s first apart second =
    let a = is_within (begin_of r) (end_of r) x first in
    let b = is_within (begin_of s) (end_of s) x second in
    elim apart [
      | inl same ↦ eq-eqb r.at s.at same.place
      | inr other ↦ absurd (elim other [
        | inl before ↦ omega (arith, a, b, before)
        | inr after ↦ omega (arith, a, b, after)
      ])
    ]

few_cover : (x : ℕ) (rs : List Reference) → NoneOverlap rs → AreFew rs → count_by (covers x) rs ≤ MOST_REFERENCES
few_cover x [] apart few = omega arith
few_cover x (r ∷ rs) apart few = by_first (covers x r) refl (few_cover x rs apart.1 (few_rest r rs few)) where
  by_first : (b : Bool) → covers x r ≡ b → count_by (covers x) rs ≤ MOST_REFERENCES → count_by (covers x) (r ∷ rs) ≤ MOST_REFERENCES
  by_first true is rest =
      let each : All (λ s. covers x s ≡ true → is_there r s ≡ true) (r ∷ rs) =
      All-cons (λ s. covers x s ≡ true → is_there r s ≡ true) r rs (λ here. eq-eqb r.at r.at refl)
      (All-weaker (DoNotOverlap r) (λ s. covers x s ≡ true → is_there r s ≡ true) (λ s other. one_there x r s is other) rs apart.0) in
      let mine = All-head (λ y. count_by (is_there y) (r ∷ rs) ≤ MOST_REFERENCES) r rs few in
      omega (arith, count_le (covers x) (is_there r) (r ∷ rs) each, mine)
  by_first false is rest =
      let none : bit (covers x r) ≡ 0 = ap bit is in
      omega (arith, none, count-cons (covers x) r rs, rest)

-- each live byte of a big-block is counted
live_total : (bigblocks block start size : ℕ) (rs : List Reference) → start ≡ start_of block → size ≡ BIGBLOCK_BYTES → All (IsPlaced bigblocks) rs
    → live_bytes rs block ≤ total (λ x. count_by (covers x) rs) start size
live_total bigblocks block start size [] begin whole placed = omega arith
live_total bigblocks block start size (r ∷ rs) begin whole placed =
    let rest = live_total bigblocks block start size rs begin whole (All-tail (IsPlaced bigblocks) r rs placed) in
    let sum = total-add (λ x. bit (covers x r)) (λ x. count_by (covers x) rs) (λ x. count_by (covers x) (r ∷ rs)) start size
    (λ x. count-cons (covers x) r rs) in
    let first : cond (is_in block r) (rounded r.len) 0 ≤ total (λ x. bit (covers x r)) start size = by_place (is_in block r) refl in
    omega (arith, rest, sum, first) where
      by_place : (b : Bool) → is_in block r ≡ b → cond b (rounded r.len) 0 ≤ total (λ x. bit (covers x r)) start size
      by_place false is = omega arith
      by_place true is =
          let here : block_of (begin_of r) ≡ block = eqb-true (block_of (begin_of r)) block is in
          let mine = All-head (IsPlaced bigblocks) r rs placed in
          let low = placed_low bigblocks r mine in
          let high = placed_high bigblocks r mine in
          let all : end_of r ≤ start + size = omega (arith, high, here, begin, whole) in
          omega (arith, total-within (begin_of r) (end_of r) start size all, low, here, begin)

live_bound : (bigblocks block start size : ℕ) (rs : List Reference) → start ≡ start_of block → size ≡ BIGBLOCK_BYTES → All (IsPlaced bigblocks) rs
    → NoneOverlap rs → AreFew rs
    → live_bytes rs block ≤ MOST_REFERENCES * size
live_bound bigblocks block start size rs begin whole placed apart few =
    let all = total-few (λ x. count_by (covers x) rs) MOST_REFERENCES start size (λ x. few_cover x rs apart few) in
    omega (arith, live_total bigblocks block start size rs begin whole placed, all)

-- so a big-block has at most 64 times its size of them
pub live_few : (bigblocks block : ℕ) (rs : List Reference) → All (IsPlaced bigblocks) rs → NoneOverlap rs → AreFew rs
    → live_bytes rs block ≤ MOST_REFERENCES * BIGBLOCK_BYTES
live_few bigblocks block rs placed apart few = live_bound bigblocks block (start_of block) BIGBLOCK_BYTES rs refl refl placed apart few
