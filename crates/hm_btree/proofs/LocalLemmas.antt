-- Changes of a list in order that have to do with one key alone.
use Rattle.std.proofs.Common.{◌≡◌, Bool, true, false, true≢false, suc, List, [], ◌∷◌, ◌++◌, refl, sym, ap, subst, ◌∙◌, Some}
use Rattle.std.specs.Prelude.{IsSome, is_some, if◌then◌else◌}
use Rattle.std.specs.List.{AllByRecursion}
use Rattle.std.specs.List.Sorted.{IsStrictlySortedBy}
use Rattle.std.specs.Cmp.{Equal-is}
use Rattle.std.specs.Ordering.{is_lt, is_eq}
use Rattle.std.specs.declared.cmp.Ordering.{Ordering}
use Rattle.std.specs.declared.cmp.Ordering.TheVariants.{Less, Equal, Greater}
use Rattle.hm_types.specs.Elements.{Key, key_cmp}
use Rattle.hm_key.specs.Key.{IsBefore}
use Rattle.hm_key.specs.Elements.{element_key, element_cmp, stands_at, stands_before, element_at, first_from, inserted, removed, changed}
use Rattle.hm_key.specs.Places.{leading, IsPlace}
use Rattle.hm_key.specs.declared.element.Element.{Element}
use Rattle.hm_key.proofs.KeyLemmas.{key_same, key_not_before, key_from_before}
use Rattle.hm_key.proofs.SearchLemmas.{if_at, element_at-first}
use Rattle.hm_btree.specs.Below.{IsLocal}

-- what stands before a key does not stand at it, and comes before what is new there
pub before_not_at : (at : Key) (e : Element) → IsBefore (element_key e) at → stands_at at e ≡ false
before_not_at at e before = ap is_eq before

pub before_stands : (at : Key) (e : Element) → IsBefore (element_key e) at → stands_before at e ≡ true
before_stands at e before = ap is_lt before

-- nor does what stands after it
pub after_not_at : (at : Key) (e : Element) → IsBefore at (element_key e) → stands_at at e ≡ false
after_not_at at e after = by_test (stands_at at e) refl where
  by_test : (b : Bool) → stands_at at e ≡ b → b ≡ false
  by_test true is = absurd (key_not_before at (subst (λ (k : Key). IsBefore at k)
      (key_same (element_key e) at ((Equal-is (key_cmp (element_key e) at)).0 is)) after))
  by_test false is = refl

pub after_not_before : (at : Key) (e : Element) → IsBefore at (element_key e) → stands_before at e ≡ false
after_not_before at e after = by_order (key_cmp (element_key e) at) refl where
  by_order : (o : Ordering) → key_cmp (element_key e) at ≡ o → is_lt (key_cmp (element_key e) at) ≡ false
  by_order Less is = absurd (key_from_before at (element_key e) after is)
  by_order Equal is = ap is_lt is
  by_order Greater is = ap is_lt is

module _ (at : Key) (change : Element → Element) where
  changed_front : (xs ys : List Element) → AllByRecursion (λ e. IsBefore (element_key e) at) xs → changed at change (xs ++ ys) ≡ xs ++ changed at change ys
  changed_front [] ys before = refl
  changed_front (x ∷ xs) ys before = rw (before_not_at at x before.0) (ap (λ (l : List Element). x ∷ l) (changed_front xs ys before.1))

  changed_none : (ys : List Element) → AllByRecursion (λ e. IsBefore at (element_key e)) ys → changed at change ys ≡ ys
  changed_none [] after = refl
  changed_none (y ∷ ys) after = rw (after_not_at at y after.0) (ap (λ (l : List Element). y ∷ l) (changed_none ys after.1))

  changed_back : (xs ys : List Element) → AllByRecursion (λ e. IsBefore at (element_key e)) ys → changed at change (xs ++ ys) ≡ changed at change xs ++ ys
  changed_back [] ys after = changed_none ys after
  changed_back (x ∷ xs) ys after = by_test (stands_at at x) (changed_back xs ys after) where
    by_test : (b : Bool) → changed at change (xs ++ ys) ≡ changed at change xs ++ ys
        → (if b then change x ∷ (xs ++ ys) else x ∷ changed at change (xs ++ ys)) ≡ (if b then change x ∷ xs else x ∷ changed at change xs) ++ ys
    by_test true more = refl
    by_test false more = ap (λ (l : List Element). x ∷ l) more

  -- an element changes
  pub changed_local : IsLocal (changed at change) at
  changed_local = record { front = changed_front; back = changed_back }

module _ (at : Key) where
  removed_front : (xs ys : List Element) → AllByRecursion (λ e. IsBefore (element_key e) at) xs → removed at (xs ++ ys) ≡ xs ++ removed at ys
  removed_front [] ys before = refl
  removed_front (x ∷ xs) ys before = rw (before_not_at at x before.0) (ap (λ (l : List Element). x ∷ l) (removed_front xs ys before.1))

  removed_none : (ys : List Element) → AllByRecursion (λ e. IsBefore at (element_key e)) ys → removed at ys ≡ ys
  removed_none [] after = refl
  removed_none (y ∷ ys) after = rw (after_not_at at y after.0) (ap (λ (l : List Element). y ∷ l) (removed_none ys after.1))

  removed_back : (xs ys : List Element) → AllByRecursion (λ e. IsBefore at (element_key e)) ys → removed at (xs ++ ys) ≡ removed at xs ++ ys
  removed_back [] ys after = removed_none ys after
  removed_back (x ∷ xs) ys after = by_test (stands_at at x) (removed_back xs ys after) where
    by_test : (b : Bool) → removed at (xs ++ ys) ≡ removed at xs ++ ys → (if b then xs ++ ys else x ∷ removed at (xs ++ ys)) ≡ (if
        b then xs else x ∷ removed at xs) ++ ys
    by_test true more = refl
    by_test false more = ap (λ (l : List Element). x ∷ l) more

  -- an element goes
  pub removed_local : IsLocal (removed at) at
  removed_local = record { front = removed_front; back = removed_back }

module _ (new : Element) where
  inserted_front : (xs ys : List Element) → AllByRecursion (λ e. IsBefore (element_key e) (element_key new)) xs → inserted new
      (xs ++ ys) ≡ xs ++ inserted new ys
  inserted_front [] ys before = refl
  inserted_front (x ∷ xs) ys before = rw (before_stands (element_key new) x before.0) (ap (λ (l : List Element). x ∷ l) (inserted_front xs ys before.1))

  inserted_first : (ys : List Element) → AllByRecursion (λ e. IsBefore (element_key new) (element_key e)) ys → inserted new ys ≡ new ∷ ys
  inserted_first [] after = refl
  inserted_first (y ∷ ys) after = rw (after_not_before (element_key new) y after.0) refl

  inserted_back : (xs ys : List Element) → AllByRecursion (λ e. IsBefore (element_key new) (element_key e)) ys → inserted new
      (xs ++ ys) ≡ inserted new xs ++ ys
  inserted_back [] ys after = inserted_first ys after
  inserted_back (x ∷ xs) ys after = by_test (stands_before (element_key new) x) (inserted_back xs ys after) where
    by_test : (b : Bool) → inserted new (xs ++ ys) ≡ inserted new xs ++ ys
        → (if b then x ∷ inserted new (xs ++ ys) else new ∷ x ∷ (xs ++ ys)) ≡ (if b then x ∷ inserted new xs else new ∷ x ∷ xs) ++ ys
    by_test true more = ap (λ (l : List Element). x ∷ l) more
    by_test false more = refl

  -- an element comes
  pub inserted_local : IsLocal (inserted new) (element_key new)
  inserted_local = record { front = inserted_front; back = inserted_back }

-- the element at a key comes after all that stand before the key
pub leading_place : (at : Key) (es : List Element) → IsStrictlySortedBy element_cmp es → IsSome (element_at at es) → IsPlace at es (leading at es)
unfolding IsStrictlySortedBy
leading_place at [] rising there = absurd (true≢false (sym there))
leading_place at (e ∷ es) rising there = by_order (key_cmp (element_key e) at) refl there
    (λ some. leading_place at es rising.1 some) (element_at-first at (e ∷ es) rising) where
      by_order : (o : Ordering) → key_cmp (element_key e) at ≡ o → IsSome (if is_eq o then Some e else element_at at es)
          → (IsSome (element_at at es) → IsPlace at es (leading at es))
          → element_at at (e ∷ es) ≡ if_at at (first_from at (e ∷ es)) → IsPlace at (e ∷ es) (if is_lt o then suc (leading at es) else 0)
      by_order Less is some more first = (ap is_eq is, more some)
      by_order Equal is some more first = ap is_eq is
      by_order Greater is some more first = absurd (true≢false (sym some ∙ ap is_some (rw is at (rw is at first))))

-- the element that stands at a key, and what all keep
pub element_each : (P : Element → Type 0) (at : Key) (es : List Element) → AllByRecursion P es → IsSome (element_at at es)
    → (e : Element) × (element_key e ≡ at) × P e
element_each P at [] each there = absurd (true≢false (sym there))
element_each P at (e ∷ es) each there = by_test (stands_at at e) refl there (λ some. element_each P at es each.1 some) where
  by_test : (b : Bool) → stands_at at e ≡ b → IsSome (if b then Some e else element_at at es)
      → (IsSome (element_at at es) → (x : Element) × (element_key x ≡ at) × P x) → (x : Element) × (element_key x ≡ at) × P x
  by_test true is some more = (e, key_same (element_key e) at ((Equal-is (key_cmp (element_key e) at)).0 is), each.0)
  by_test false is some more = more some
