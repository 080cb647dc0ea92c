-- One list alone stands for a set.
use Rattle.std.proofs.Common.{◌≡◌, ℕ, ◌+◌, ◌<◌, ◌≤◌, ◌^◌, List, [], ◌∷◌, length, refl, inl, inr, arith}
use Rattle.hm_types.specs.Intervals.{Keeps}
use Rattle.hm_retain.specs.Intervals.{KeepsExactly, RiseFrom}
use Rattle.hm_retain.specs.Retention.{IsRetention, IsTooMany}
use Rattle.hm_retain.proofs.SetLemmas.{kept_from, less_or_not}

-- each id below 2^64 that the first list keeps, the second keeps
abbrev pub IsWithin : List (ℕ × ℕ) → List (ℕ × ℕ) → Type 0
IsWithin a b = (id : ℕ) → id < 2 ^ 64 → Keeps a id → Keeps b id

-- the wider list begins no later
first_le : (la lb : ℕ) (x y : ℕ × ℕ) (xs ys : List (ℕ × ℕ)) → RiseFrom la (x ∷ xs) → RiseFrom lb (y ∷ ys) → IsWithin (x ∷ xs) (y ∷ ys) → y.0 ≤ x.0
first_le la lb x y xs ys rx ry within =
    let from : RiseFrom y.0 (y ∷ ys) = (record { above = omega arith; ordered = ry.0.ordered; bounded = ry.0.bounded }, ry.1) in
    kept_from y.0 (y ∷ ys) x.0 from (within x.0 (omega arith) (inl (omega arith, omega arith)))

-- of two first intervals that begin together, the wider list's ends no earlier
last_le : (la lb : ℕ) (x y : ℕ × ℕ) (xs ys : List (ℕ × ℕ)) → RiseFrom la (x ∷ xs) → RiseFrom lb (y ∷ ys) → x.0 ≡ y.0 → IsWithin (x ∷ xs) (y ∷ ys) → x.1 ≤ y.1
last_le la lb x y xs ys rx ry same within =
    elim (less_or_not y.1 x.1) [
      | inl less ↦ elim (within (y.1 + 1) (omega arith) (inl (omega arith, omega arith))) [
        | inl held ↦ absurd (omega arith)
        | inr kept ↦ let above : y.1 + 2 ≤ y.1 + 1 = kept_from (y.1 + 2) ys (y.1 + 1) ry.1 kept in absurd (omega arith)
      ]
      | inr not ↦ not
    ]

-- what is left after first intervals that end together
rest_within : (x y : ℕ × ℕ) (xs ys : List (ℕ × ℕ)) → RiseFrom (x.1 + 2) xs → y.1 ≤ x.1 → IsWithin (x ∷ xs) (y ∷ ys) → IsWithin xs ys
rest_within x y xs ys rise le within id below kept =
    elim (within id below (inr kept)) [
      | inl held ↦ let above : x.1 + 2 ≤ id = kept_from (x.1 + 2) xs id rise kept in absurd (omega arith)
      | inr more ↦ more
    ]

pair_same : (x y : ℕ × ℕ) → x.0 ≡ y.0 → x.1 ≡ y.1 → x ≡ y
pair_same x y first last = let whole : (x.0, x.1) ≡ (y.0, y.1) = cc in whole

-- lists that keep the same ids are equal
same_by_ids : (la lb : ℕ) (a b : List (ℕ × ℕ)) → RiseFrom la a → RiseFrom lb b → IsWithin a b → IsWithin b a → a ≡ b
same_by_ids la lb [] [] ra rb up down = refl
same_by_ids la lb [] (y ∷ ys) ra rb up down = absurd (down y.0 (omega arith) (inl (omega arith, omega arith)))
same_by_ids la lb (x ∷ xs) [] ra rb up down = absurd (up x.0 (omega arith) (inl (omega arith, omega arith)))
same_by_ids la lb (x ∷ xs) (y ∷ ys) ra rb up down =
    let low : y.0 ≤ x.0 = first_le la lb x y xs ys ra rb up in
    let high : x.0 ≤ y.0 = first_le lb la y x ys xs rb ra down in
    let first : x.0 ≡ y.0 = omega arith in
    let back : y.0 ≡ x.0 = omega arith in
    let most : x.1 ≤ y.1 = last_le la lb x y xs ys ra rb first up in
    let least : y.1 ≤ x.1 = last_le lb la y x ys xs rb ra back down in
    let last : x.1 ≡ y.1 = omega arith in
    let head : x ≡ y = pair_same x y first last in
    let tail : xs ≡ ys = same_by_ids (x.1 + 2) (y.1 + 2) xs ys ra.1 rb.1 (rest_within x y xs ys ra.1 least up) (rest_within y x ys xs rb.1 most down) in
    cc

-- one list alone of maximal intervals stands for a set of ids
pub same_list : (a b : List (ℕ × ℕ)) → RiseFrom 0 a → RiseFrom 0 b → KeepsExactly a (Keeps b) → a ≡ b
same_list a b ra rb exact = same_by_ids 0 0 a b ra rb (λ id below. (exact id below).0) (λ id below. (exact id below).1)

-- lists that keep one set keep the same ids
exact_both : (Set : ℕ → Type 0) (a b : List (ℕ × ℕ)) → KeepsExactly a Set → KeepsExactly b Set → KeepsExactly a (Keeps b)
exact_both Set a b ea eb id below = (λ kept. (eb id below).1 ((ea id below).0 kept), λ kept. (ea id below).1 ((eb id below).0 kept))

-- a set of too many intervals has no other list that is a retention
pub not_retention : (Set : ℕ → Type 0) (count : ℕ) (list : List (ℕ × ℕ)) → IsTooMany (λ kept. KeepsExactly kept Set) count → KeepsExactly list Set
    → ¬ IsRetention list
not_retention Set count list many exact retention =
    let same : many.list ≡ list = same_list many.list list many.intervals retention.intervals (exact_both Set many.list list many.meets exact) in
    let long : 4096 < length list = rw same at many.many in
    omega (arith, long, retention.few)
