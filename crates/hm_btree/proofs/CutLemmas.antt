-- Two lists that are cut anew, of which each value keeps a fact with a number of its list's.
use Rattle.std.proofs.Common.{◌≡◌, Bool, true, false, ℕ, ◌-◌, ◌≤◌, List, ◌++◌, length, take, drop, refl, sym, subst, arith, max, nat_lt, ltb-true, ltb-false}
use Rattle.std.specs.Prelude.{if◌then◌else◌}
use Rattle.std.specs.List.{AllByRecursion}
use Rattle.std.proofs.lemmas.List.{take-append-drop, take-append-le}
use Rattle.hm_search.proofs.ListLemmas.{each_so, each_append}
use Rattle.hm_btree.specs.Shrink.{share_of}
use Rattle.hm_btree.proofs.ListLemmas.{drop_across}
use Rattle.hm_btree.proofs.OrderLemmas.{each_front, each_back}

-- where two lists that share their values out are cut, and whether the first one gains some
abbrev pub cut_of : {A : Type 0} → List A → List A → ℕ
cut_of xs ys = share_of (length xs) (length ys)

abbrev pub gains_of : {A : Type 0} → List A → List A → Bool
gains_of xs ys = nat_lt (length xs) (cut_of xs ys)

abbrev pub low_part : {A : Type 0} → List A → List A → List A
low_part xs ys = take (cut_of xs ys) (xs ++ ys)

abbrev pub high_part : {A : Type 0} → List A → List A → List A
high_part xs ys = drop (cut_of xs ys) (xs ++ ys)

-- the numbers that they have then
abbrev pub low_of : Bool → ℕ → ℕ → ℕ
low_of gains m n = if gains then max m n else m

abbrev pub high_of : Bool → ℕ → ℕ → ℕ
high_of gains m n = if gains then n else max m n

module _ {A : Type 0} (P : A → Type 0) (n : ℕ) (xs : List A) (each : AllByRecursion P xs) where
  parted : AllByRecursion P (take n xs ++ drop n xs)
  parted = subst (λ (l : List A). AllByRecursion P l) (sym (take-append-drop n xs)) each

  pub each_take : AllByRecursion P (take n xs)
  each_take = each_front P (take n xs) (drop n xs) parted

  pub each_drop : AllByRecursion P (drop n xs)
  each_drop = each_back P (take n xs) (drop n xs) parted

-- the greater number holds for both lists, and a part of one list alone keeps that list's
module _ {A : Type 0} (P : ℕ → A → Type 0) (rise : (m n : ℕ) (x : A) → m ≤ n → P m x → P n x) (m n : ℕ) (xs ys : List A)
    (first : AllByRecursion (P m) xs) (second : AllByRecursion (P n) ys) where
  pub each_most : AllByRecursion (P (max m n)) (xs ++ ys)
  each_most =
      each_append (P (max m n)) xs ys (each_so (P m) (P (max m n)) xs (λ x is. rise m (max m n) x (omega arith) is) first)
      (each_so (P n) (P (max m n)) ys (λ x is. rise n (max m n) x (omega arith) is) second)

  pub cut_low : (count : ℕ) → AllByRecursion (P (low_of (nat_lt (length xs) count) m n)) (take count (xs ++ ys))
  cut_low count = by_test (nat_lt (length xs) count) refl where
    by_test : (b : Bool) → nat_lt (length xs) count ≡ b → AllByRecursion (P (low_of b m n)) (take count (xs ++ ys))
    by_test true is = each_take (P (max m n)) count (xs ++ ys) each_most
    by_test false is = subst (λ (l : List A). AllByRecursion (P m) l)
        (sym (take-append-le count xs ys (ltb-false (length xs) count is))) (each_take (P m) count xs first)

  pub cut_high : (count : ℕ) → AllByRecursion (P (high_of (nat_lt (length xs) count) m n)) (drop count (xs ++ ys))
  cut_high count = by_test (nat_lt (length xs) count) refl where
    by_test : (b : Bool) → nat_lt (length xs) count ≡ b → AllByRecursion (P (high_of b m n)) (drop count (xs ++ ys))
    by_test true is =
        let below = ltb-true (length xs) count is in
        subst (λ (l : List A). AllByRecursion (P n) l) (sym (drop_across count xs ys (omega (arith, below)))) (each_drop (P n) (count - length xs) ys second)
    by_test false is = each_drop (P (max m n)) count (xs ++ ys) each_most
