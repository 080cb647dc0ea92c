-- Values that stand in the first places of a page, and their order.
use Rattle.std.proofs.Common.{◌≡◌, ℕ, zero, suc, ◌+◌, ◌-◌, ◌<◌, ◌≤◌, inl, inr, List, [], ◌∷◌, ◌++◌, length, map, refl, sym, subst, ◌∙◌, arith, length-append}
use Rattle.std.specs.Prelude.{All, slice_index_or}
use Rattle.std.specs.List.{AllByRecursion}
use Rattle.std.specs.List.Sorted.{IsStrictlySortedBy}
use Rattle.std.specs.Cmp.{IsTotalOrder}
use Rattle.std.specs.declared.cmp.Ordering.{Ordering}
use Rattle.std.specs.declared.cmp.Ordering.TheVariants.{Less}
use Rattle.std.proofs.lemmas.Bool.{cases_lt}
use Rattle.std.proofs.lemmas.List.{map-append, get_or_append_left, get_or-append_right}
use Rattle.std.proofs.lemmas.Cmp.{on_total}
use Rattle.hm_key.specs.Key.{key_of}
use Rattle.hm_key.proofs.KeyLemmas.{key_total}
use Rattle.hm_node.specs.Base.{base_cmp}
use Rattle.hm_node.specs.Places.{first}

module _ {A : Type 0} (f : ℕ → A) where
  pub first_length : (n : ℕ) → length (first f n) ≡ n
  unfolding first
  first_length zero = refl
  first_length (suc n) = omega (arith, length-append (first f n) (f n ∷ []), first_length n)

  -- the value at a place
  pub first_at : (n i : ℕ) (d : A) → i < n → slice_index_or (first f n) i d ≡ f i
  unfolding first
  first_at zero i d low = absurd (omega arith)
  first_at (suc n) i d low =
      elim (cases_lt i n) [
        | inl before ↦ get_or_append_left (first f n) (f n ∷ []) d i (omega (arith, first_length n)) ∙ first_at n i d before
        | inr here ↦
            let is : i ≡ n = omega arith in
            let zero_is : n - n ≡ 0 = omega arith in
            rw is (get_or-append_right (first f n) (f n ∷ []) n n d (first_length n) (omega arith) ∙ rw zero_is refl)
      ]

  -- what holds at each place
  pub first_all : (P : A → Type 0) (n : ℕ) → ((i : ℕ) → i < n → P (f i)) → All P (first f n)
  first_all P n each k d low =
      let low' : k < n = omega (arith, first_length n) in
      subst P (sym (first_at n k d low')) (each k low')

  pub all_first : (P : A → Type 0) (n : ℕ) → All P (first f n) → (i : ℕ) → i < n → P (f i)
  all_first P n each i low =
      subst P (first_at n i (f i) low) (each i (f i) (omega (arith, first_length n)))

-- functions that are the same at each place
pub first_same : {A : Type 0} (f g : ℕ → A) (n : ℕ) → ((i : ℕ) → i < n → f i ≡ g i) → first f n ≡ first g n
unfolding first
first_same f g zero each = refl
first_same f g (suc n) each = rw (first_same f g n (λ i low. each i (omega arith)), each n (omega arith)) refl

pub first_map : {A B : Type 0} (h : A → B) (f : ℕ → A) (n : ℕ) → map h (first f n) ≡ first (λ i. h (f i)) n
unfolding first
first_map h f zero = refl
first_map h f (suc n) = map-append h (first f n) (f n ∷ []) ∙ rw (first_map h f n) refl

-- a list with one more at its end
module _ {A : Type 0} (P : A → Type 0) where
  all_more : (xs : List A) (y : A) → AllByRecursion P xs → P y → AllByRecursion P (xs ++ y ∷ [])
  all_more [] y each here = (here, tt)
  all_more (x ∷ xs) y each here = (each.0, all_more xs y each.1 here)

  all_front : (xs : List A) (y : A) → AllByRecursion P (xs ++ y ∷ []) → AllByRecursion P xs
  all_front [] y each = tt
  all_front (x ∷ xs) y each = (each.0, all_front xs y each.1)

  all_last : (xs : List A) (y : A) → AllByRecursion P (xs ++ y ∷ []) → P y
  all_last [] y each = each.0
  all_last (x ∷ xs) y each = all_last xs y each.1

all_so : {A : Type 0} (P Q : A → Type 0) (xs : List A) → ((x : A) → P x → Q x) → AllByRecursion P xs → AllByRecursion Q xs
all_so P Q [] so each = tt
all_so P Q (x ∷ xs) so each = (so x each.0, all_so P Q xs so each.1)

module _ {A : Type 0} (cmp : A → A → Ordering) where
  sorted_more : (xs : List A) (y : A) → IsStrictlySortedBy cmp xs → AllByRecursion (λ x. cmp x y ≡ Less) xs → IsStrictlySortedBy cmp (xs ++ y ∷ [])
  unfolding IsStrictlySortedBy
  sorted_more [] y sorted below = (tt, tt)
  sorted_more (x ∷ xs) y sorted below = (all_more (λ z. cmp x z ≡ Less) xs y sorted.0 below.0, sorted_more xs y sorted.1 below.1)

  sorted_front : (xs : List A) (y : A) → IsStrictlySortedBy cmp (xs ++ y ∷ []) → IsStrictlySortedBy cmp xs
  unfolding IsStrictlySortedBy
  sorted_front [] y sorted = tt
  sorted_front (x ∷ xs) y sorted = (all_front (λ z. cmp x z ≡ Less) xs y sorted.0, sorted_front xs y sorted.1)

  sorted_last : (xs : List A) (y : A) → IsStrictlySortedBy cmp (xs ++ y ∷ []) → AllByRecursion (λ x. cmp x y ≡ Less) xs
  unfolding IsStrictlySortedBy
  sorted_last [] y sorted = tt
  sorted_last (x ∷ xs) y sorted = (all_last (λ z. cmp x z ≡ Less) xs y sorted.0, sorted_last xs y sorted.1)

  -- one more value in order
  pub rising_more : IsTotalOrder cmp → (f : ℕ → A) (i : ℕ) → 1 ≤ i → IsStrictlySortedBy cmp (first f i) → cmp (f (i - 1)) (f i) ≡ Less
      → IsStrictlySortedBy cmp (first f (i + 1))
  unfolding first
  rising_more total f zero some sorted next = absurd (omega arith)
  rising_more total f (suc j) some sorted next =
      let before : suc j - 1 ≡ j = omega arith in
      let after : suc j + 1 ≡ suc (suc j) = omega arith in
      subst (λ (n : ℕ). IsStrictlySortedBy cmp (first f n)) (sym after)
      (more total f j sorted (subst (λ (k : ℕ). cmp (f k) (f (suc j)) ≡ Less) before next)) where
        more : IsTotalOrder cmp → (f : ℕ → A) (j : ℕ) → IsStrictlySortedBy cmp (first f (suc j)) → cmp (f j) (f (suc j)) ≡ Less
            → IsStrictlySortedBy cmp (first f (suc (suc j)))
        more total f j sorted next =
            let below = all_so (λ x. cmp x (f j) ≡ Less) (λ x. cmp x (f (suc j)) ≡ Less) (first f j)
            (λ x less. total.trans x (f j) (f (suc j)) less next) (sorted_last (first f j) (f j) sorted) in
            sorted_more (first f j ++ f j ∷ []) (f (suc j)) sorted (all_more (λ x. cmp x (f (suc j)) ≡ Less) (first f j) (f j) below next)

  -- fewer values of some in order
  pub rising_fewer : (f : ℕ → A) (n m : ℕ) → n ≤ m → IsStrictlySortedBy cmp (first f m) → IsStrictlySortedBy cmp (first f n)
  unfolding first
  rising_fewer f n zero low sorted = let none : n ≡ 0 = omega arith in rw none sorted
  rising_fewer f n (suc m) low sorted =
      elim (cases_lt m n) [
        | inl all ↦ let is : n ≡ suc m = omega arith in rw is sorted
        | inr fewer ↦ rising_fewer f n m fewer (sorted_front (first f m) (f m) sorted)
      ]

  -- neighbours among some in order
  pub rising_next : (f : ℕ → A) (i n : ℕ) → 1 ≤ i → i < n → IsStrictlySortedBy cmp (first f n) → cmp (f (i - 1)) (f i) ≡ Less
  unfolding first
  rising_next f zero n some low sorted = absurd (omega arith)
  rising_next f (suc j) n some low sorted =
      let before : suc j - 1 ≡ j = omega arith in
      rw before (next f j (rising_fewer f (suc (suc j)) n (omega arith) sorted)) where
        next : (f : ℕ → A) (j : ℕ) → IsStrictlySortedBy cmp (first f (suc (suc j))) → cmp (f j) (f (suc j)) ≡ Less
        next f j sorted = all_last (λ x. cmp x (f (suc j)) ≡ Less) (first f j) (f j) (sorted_last (first f j ++ f j ∷ []) (f (suc j)) sorted)

-- the order of values is that of what stands for them
pub sorted_map : {A B : Type 0} (cmp : B → B → Ordering) (h : A → B) (xs : List A) → IsStrictlySortedBy (λ x y. cmp (h x) (h y)) xs
    → IsStrictlySortedBy cmp (map h xs)
unfolding IsStrictlySortedBy
sorted_map cmp h [] sorted = tt
sorted_map {A = A} {B = B} cmp h (x ∷ xs) sorted = (all_map xs sorted.0, sorted_map cmp h xs sorted.1) where
  all_map : (ys : List A) → AllByRecursion (λ y. cmp (h x) (h y) ≡ Less) ys → AllByRecursion (λ y. cmp (h x) y ≡ Less) (map h ys)
  all_map [] each = tt
  all_map (y ∷ ys) each = (each.0, all_map ys each.1)

pub map_sorted : {A B : Type 0} (cmp : B → B → Ordering) (h : A → B) (xs : List A) → IsStrictlySortedBy cmp (map h xs)
    → IsStrictlySortedBy (λ x y. cmp (h x) (h y)) xs
unfolding IsStrictlySortedBy
map_sorted cmp h [] sorted = tt
map_sorted {A = A} {B = B} cmp h (x ∷ xs) sorted = (all_map xs sorted.0, map_sorted cmp h xs sorted.1) where
  all_map : (ys : List A) → AllByRecursion (λ y. cmp (h x) y ≡ Less) (map h ys) → AllByRecursion (λ y. cmp (h x) (h y) ≡ Less) ys
  all_map [] each = tt
  all_map (y ∷ ys) each = (each.0, all_map ys each.1)

-- the order of bases is total
pub base_total : IsTotalOrder base_cmp
base_total = on_total key_of key_total

-- values that a loop reads one after the other
pub first_none : {A : Type 0} (f : ℕ → A) (xs : List A) → xs ≡ [] → xs ≡ first f 0
unfolding first
first_none f xs none = none

pub first_more : {A : Type 0} (f : ℕ → A) (i : ℕ) (xs ys : List A) (x : A) → xs ≡ first f i → x ≡ f i → ys ≡ xs ++ x ∷ [] → ys ≡ first f (i + 1)
unfolding first
first_more f i xs ys x before here more = let after : i + 1 ≡ suc i = omega arith in rw (after, more, before, here) refl
