-- Facts of short lists, and of what a function makes of a list.
use Rattle.std.proofs.Common.{◌≡◌, List, ◌⊎◌, inl, inr, zero, suc, [], ◌∷◌, refl, ap, ◌∙◌, arith, map}
use Rattle.std.specs.List.{All, AllByRecursion, Contains}
use Rattle.std.proofs.lemmas.List.{get_or-map, length-map}
use Rattle.std.proofs.lemmas.List.Elements.{All-cons, All-head, All-nil, All-tail}

pub all_one : {X : Type 0} (P : X → Type 0) (x : X) → P x → All P (x ∷ [])
all_one P x p = All-cons P x [] p (All-nil P)

pub all_two : {X : Type 0} (P : X → Type 0) (x y : X) → P x → P y → All P (x ∷ y ∷ [])
all_two P x y p q = All-cons P x (y ∷ []) p (all_one P y q)

pub all_three : {X : Type 0} (P : X → Type 0) (x y z : X) → P x → P y → P z → All P (x ∷ y ∷ z ∷ [])
all_three P x y z p q r = All-cons P x (y ∷ z ∷ []) p (all_two P y z q r)

-- an element of a list of two is one of them
pub one_of_two : {X : Type 0} (x y z : X) → Contains (x ∷ y ∷ []) z → (x ≡ z) ⊎ (y ≡ z)
one_of_two x y z (zero, few, here) = inl here
one_of_two x y z (suc zero, few, here) = inr here
one_of_two x y z (suc (suc k), few, here) = absurd (omega arith)

-- and of a list of one it is that
pub only_one : {X : Type 0} (x z : X) → Contains (x ∷ []) z → x ≡ z
only_one x z (zero, few, here) = here
only_one x z (suc k, few, here) = absurd (omega arith)

-- an element of a list is its first, or one of the others
pub first_or_later : {X : Type 0} (x : X) (xs : List X) (z : X) → Contains (x ∷ xs) z → (x ≡ z) ⊎ Contains xs z
first_or_later x xs z (zero, few, here) = inl here
first_or_later x xs z (suc k, few, here) = inr (k, omega arith, here)

module _ {A B : Type 0} where
  -- two functions that agree on each element of a list
  pub map_alike : (f g : A → B) (xs : List A) → AllByRecursion (λ x. f x ≡ g x) xs → map f xs ≡ map g xs
  map_alike f g [] same = refl
  map_alike f g (x ∷ xs) same = λ i. same.0 i ∷ map_alike f g xs same.1 i

  pub contains_map : (f : A → B) (xs : List A) (x : A) → Contains xs x → Contains (map f xs) (f x)
  contains_map f xs x there =
      let within = there.1 in
      (there.0, omega (arith, within, length-map xs f), get_or-map f xs there.0 x (f x) within ∙ ap f there.2)

  pub each_from_map : (P : B → Type 0) (f : A → B) (xs : List A) → All P (map f xs) → AllByRecursion (λ x. P (f x)) xs
  each_from_map P f [] each = tt
  each_from_map P f (x ∷ xs) each = (All-head P (f x) (map f xs) each, each_from_map P f xs (All-tail P (f x) (map f xs) each))
