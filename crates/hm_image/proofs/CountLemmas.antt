-- Counts of the elements of a list that pass a test, and tests that agree.
use Rattle.std.proofs.Common.{◌≡◌, Bool, true, false, ℕ, List, [], ◌∷◌, refl, sym, ap, arith, nat_eq, map, eq-eqb, eqb-true}
use Rattle.std.specs.Prelude.{count_by}
use Rattle.std.specs.List.{AllByRecursion}
use Rattle.hm_freemap.proofs.CountLemmas.{bit, count-cons}

-- two tests that pass together
pub same_tests : (a b : Bool) → (a ≡ true → b ≡ true) → (b ≡ true → a ≡ true) → a ≡ b
same_tests true b to from = sym (to refl)
same_tests false true to from = from refl
same_tests false false to from = refl

pub nat_turned : (a b : ℕ) → nat_eq a b ≡ nat_eq b a
nat_turned a b = same_tests (nat_eq a b) (nat_eq b a) (λ is. eq-eqb b a (sym (eqb-true a b is))) (λ is. eq-eqb a b (sym (eqb-true b a is)))

module _ {X : Type 0} where
  pub count_alike : (p q : X → Bool) (xs : List X) → AllByRecursion (λ x. p x ≡ q x) xs → count_by p xs ≡ count_by q xs
  count_alike p q [] same = refl
  count_alike p q (x ∷ xs) same =
      let here : bit (p x) ≡ bit (q x) = ap bit same.0 in
      omega (arith, here, count_alike p q xs same.1, count-cons p x xs, count-cons q x xs)

  pub count_none : (p : X → Bool) (xs : List X) → AllByRecursion (λ x. p x ≡ false) xs → count_by p xs ≡ 0
  count_none p [] fails = refl
  count_none p (x ∷ xs) fails =
      let here : bit (p x) ≡ 0 = ap bit fails.0 in
      omega (arith, here, count_none p xs fails.1, count-cons p x xs)

  pub count_map : {Y : Type 0} (p : X → Bool) (f : Y → X) (ys : List Y) → count_by p (map f ys) ≡ count_by (λ y. p (f y)) ys
  count_map p f [] = refl
  count_map p f (y ∷ ys) = omega (arith, count_map p f ys, count-cons p (f y) (map f ys), count-cons (λ z. p (f z)) y ys)
