-- Lists whose elements keep a fact, or stand in order.
use Rattle.std.proofs.Common.{◌≡◌, Bool, true, false, not, true≢false, ℕ, zero, suc, ◌<◌, ◌≤◌, inl, inr, List, [], ◌∷◌, ◌++◌, length, refl, sym, ap, subst}
use Rattle.std.proofs.Common.{arith}
use Rattle.std.specs.Prelude.{slice_index_or, slice_get, Some}
use Rattle.std.specs.List.{AllByRecursion, AllWithin}
use Rattle.std.specs.List.Sorted.{IsStrictlySortedBy, IsPartitionedBy}
use Rattle.std.specs.Ordering.{is_lt}
use Rattle.std.specs.declared.cmp.Ordering.{Ordering}
use Rattle.std.specs.declared.cmp.Ordering.TheVariants.{Less}
use Rattle.std.proofs.lemmas.Bool.{cases_lt}
use Rattle.hm_types.specs.Elements.{Key}
use Rattle.hm_key.specs.Key.{IsBefore, IsFrom}
use Rattle.hm_key.specs.Elements.{element_key, element_cmp, stands_before}
use Rattle.hm_key.specs.Places.{leading}
use Rattle.hm_key.specs.declared.element.Element.{Element}
use Rattle.hm_key.proofs.KeyLemmas.{key_total, key_before_from}
use Rattle.hm_node.specs.declared.inner.Child.{Child}
use Rattle.hm_search.specs.Tree.{starts_after}
use Rattle.hm_search.specs.Search.{begun}
use Rattle.hm_search.proofs.OrderLemmas.{before_is}

module _ {A : Type 0} where
  pub each_so : (P Q : A → Type 0) (xs : List A) → ((x : A) → P x → Q x) → AllByRecursion P xs → AllByRecursion Q xs
  each_so P Q [] so each = tt
  each_so P Q (x ∷ xs) so each = (so x each.0, each_so P Q xs so each.1)

  pub each_both : (P Q : A → Type 0) (xs : List A) → AllByRecursion P xs → AllByRecursion Q xs → AllByRecursion (λ x. P x × Q x) xs
  each_both P Q [] first second = tt
  each_both P Q (x ∷ xs) first second = ((first.0, second.0), each_both P Q xs first.1 second.1)

  pub each_append : (P : A → Type 0) (xs ys : List A) → AllByRecursion P xs → AllByRecursion P ys → AllByRecursion P (xs ++ ys)
  each_append P [] ys first second = second
  each_append P (x ∷ xs) ys first second = (first.0, each_append P xs ys first.1 second)

  -- what holds of each holds of the one at a place
  pub each_at : (P : A → Type 0) (xs : List A) (i : ℕ) (d : A) → i < length xs → AllByRecursion P xs → P (slice_index_or xs i d)
  each_at P [] i d low each = absurd (omega arith)
  each_at P (x ∷ xs) zero d low each = each.0
  each_at P (x ∷ xs) (suc i) d low each = each_at P xs i d (omega arith) each.1

  pub each_get : (P : A → Type 0) (xs : List A) (i : ℕ) (x : A) → slice_get xs i ≡ Some x → AllByRecursion P xs → P x
  each_get P [] i x is each = absurd cc
  each_get P (y ∷ xs) zero x is each = let same : y ≡ x = cc in subst P same each.0
  each_get P (y ∷ xs) (suc i) x is each = each_get P xs i x is each.1

module _ {A : Type 0} (cmp : A → A → Ordering) where
  -- two lists in order, of which the first stands before the second
  pub sorted_append : (xs ys : List A) → IsStrictlySortedBy cmp xs → IsStrictlySortedBy cmp ys
      → AllByRecursion (λ x. AllByRecursion (λ y. cmp x y ≡ Less) ys) xs → IsStrictlySortedBy cmp (xs ++ ys)
  unfolding IsStrictlySortedBy
  sorted_append [] ys first second apart = second
  sorted_append (x ∷ xs) ys first second apart = (each_append (λ y. cmp x y ≡ Less) xs ys first.0 apart.0, sorted_append xs ys first.1 second apart.1)

  -- an earlier value stands before a later one
  pub sorted_pair : (xs : List A) (i j : ℕ) (d : A) → IsStrictlySortedBy cmp xs → i < j → j < length xs
      → cmp (slice_index_or xs i d) (slice_index_or xs j d) ≡ Less
  unfolding IsStrictlySortedBy
  sorted_pair [] i j d sorted low high = absurd (omega arith)
  sorted_pair (x ∷ xs) i zero d sorted low high = absurd (omega arith)
  sorted_pair (x ∷ xs) zero (suc j) d sorted low high = each_at (λ y. cmp x y ≡ Less) xs j d (omega arith) sorted.0
  sorted_pair (x ∷ xs) (suc i) (suc j) d sorted low high = sorted_pair xs i j d sorted.1 (omega arith) (omega arith)

-- elements before a key, and elements from it on
pub around : (k : Key) (xs ys : List Element) → AllByRecursion (λ e. IsBefore (element_key e) k) xs → AllByRecursion (λ e. IsFrom k (element_key e)) ys
    → AllByRecursion (λ x. AllByRecursion (λ y. element_cmp x y ≡ Less) ys) xs
around k xs ys before from =
    each_so (λ e. IsBefore (element_key e) k) (λ x. AllByRecursion (λ y. element_cmp x y ≡ Less) ys) xs
    (λ x less. each_so (λ e. IsFrom k (element_key e)) (λ y. element_cmp x y ≡ Less) ys
    (λ y later. key_before_from (element_key x) k (element_key y) less later) from) before

-- the number of elements before a key, from where the test changes
pub leading_point : (at : Key) (es : List Element) (i : ℕ) → i ≤ length es → AllWithin (λ e. stands_before at e ≡ true) es 0 i
    → AllWithin (λ e. stands_before at e ≡ false) es i (length es) → i ≡ leading at es
leading_point at [] i low passes fails = omega arith
leading_point at (e ∷ es) zero low passes fails = let here : stands_before at e ≡ false = fails 0 e (omega arith) (omega arith) in rw here refl
leading_point at (e ∷ es) (suc i) low passes fails =
    let here : stands_before at e ≡ true = passes 0 e (omega arith) (omega arith) in
    rw here (ap suc (leading_point at es i (omega arith) (λ k d a b. passes (suc k) d (omega arith) (omega arith))
    (λ k d a b. fails (suc k) d (omega arith) (omega arith))))

pub leading_parted : (at : Key) (es : List Element) → IsStrictlySortedBy element_cmp es → IsPartitionedBy (stands_before at) es
leading_parted at es sorted i j d le high is =
    elim (cases_lt i j) [
      | inl below ↦ ap is_lt (key_total.trans (element_key (slice_index_or es i d))
          (element_key (slice_index_or es j d)) at (sorted_pair element_cmp es i j d sorted below high) (before_is (element_key (slice_index_or es j d)) at is))
      | inr same ↦ let one : i ≡ j = omega arith in rw one is
    ]

-- the same of the children that do not begin after a key
abbrev pub begins_by : Key → Child → Bool
begins_by key c = not (starts_after key c)

pub begun_point : (key : Key) (cs : List Child) (i : ℕ) → i ≤ length cs → AllWithin (λ c. begins_by key c ≡ true) cs 0 i
    → AllWithin (λ c. begins_by key c ≡ false) cs i (length cs) → i ≡ begun key cs
begun_point key [] i low passes fails = omega arith
begun_point key (c ∷ cs) zero low passes fails =
    let here : starts_after key c ≡ true = turned (starts_after key c) (fails 0 c (omega arith) (omega arith)) in rw here refl where
      turned : (b : Bool) → not b ≡ false → b ≡ true
      turned true is = refl
      turned false is = absurd (true≢false is)
begun_point key (c ∷ cs) (suc i) low passes fails =
    let here : starts_after key c ≡ false = turned (starts_after key c) (passes 0 c (omega arith) (omega arith)) in
    rw here (ap suc (begun_point key cs i (omega arith) (λ k d a b. passes (suc k) d (omega arith) (omega arith))
    (λ k d a b. fails (suc k) d (omega arith) (omega arith)))) where
      turned : (b : Bool) → not b ≡ true → b ≡ false
      turned true is = absurd (true≢false (sym is))
      turned false is = refl
