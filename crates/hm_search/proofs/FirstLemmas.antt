-- The first element from a key on, among those of several children.
use Rattle.std.proofs.Common.{◌≡◌, Bool, true, false, ℕ, zero, suc, ◌≤◌, List, [], ◌∷◌, ◌++◌, length, drop, refl, ap, subst, ◌∙◌, arith, if◌then◌else◌}
use Rattle.std.specs.Prelude.{Some, None, slice_get}
use Rattle.std.specs.List.{AllByRecursion}
use Rattle.std.specs.List.Sorted.{IsStrictlySortedBy}
use Rattle.std.specs.Ordering.{is_lt}
use Rattle.hm_types.specs.Elements.{Key}
use Rattle.hm_key.specs.Key.{key_of, IsBefore, IsFrom}
use Rattle.hm_key.specs.Elements.{element_key, stands_before, first_from}
use Rattle.hm_key.specs.declared.base.Base.{Base}
use Rattle.hm_key.specs.declared.element.Element.{Element}
use Rattle.hm_key.proofs.KeyLemmas.{key_before_from}
use Rattle.hm_node.specs.Base.{base_cmp}
use Rattle.hm_node.specs.declared.inner.Child.{Child}
use Rattle.hm_search.specs.Place.{IsInside}
use Rattle.hm_search.specs.Search.{begun, holder_place}
use Rattle.hm_search.specs.Tree.{starts_after, places_of}
use Rattle.hm_search.proofs.ChildLemmas.{bounds, later_sorted}
use Rattle.hm_search.proofs.ContentLemmas.{AreInside, all_of}
use Rattle.hm_search.proofs.ListLemmas.{each_so}
use Rattle.hm_search.proofs.OrderLemmas.{before_is, from_is, from_not}

-- a search passes what stands before the key
pub first_before : (key : Key) (xs ys : List Element) → AllByRecursion (λ e. stands_before key e ≡ true) xs → first_from key (xs ++ ys) ≡ first_from key ys
first_before key [] ys before = refl
first_before key (x ∷ xs) ys before = let here : stands_before key x ≡ true = before.0 in rw here (first_before key xs ys before.1)

-- what it finds in a front of a list
pub first_found : (key : Key) (e : Element) (xs ys : List Element) → first_from key xs ≡ Some e → first_from key (xs ++ ys) ≡ Some e
first_found key e [] ys found = absurd cc
first_found key e (x ∷ xs) ys found = by_test (stands_before key x) found (first_found key e xs ys) where
  by_test : (b : Bool) → (if b then first_from key xs else Some x) ≡ Some e → (first_from key xs ≡ Some e → first_from key (xs ++ ys) ≡ Some e)
      → (if b then first_from key (xs ++ ys) else Some x) ≡ Some e
  by_test true found more = more found
  by_test false found more = found

-- and where it finds nothing there
pub first_none : (key : Key) (xs ys : List Element) → first_from key xs ≡ None → first_from key (xs ++ ys) ≡ first_from key ys
first_none key [] ys none = refl
first_none key (x ∷ xs) ys none = by_test (stands_before key x) none (first_none key xs ys) where
  by_test : (b : Bool) → (if b then first_from key xs else Some x) ≡ None → (first_from key xs ≡ None → first_from key (xs ++ ys) ≡ first_from key ys)
      → (if b then first_from key (xs ++ ys) else Some x) ≡ first_from key ys
  by_test true none more = more none
  by_test false none more = absurd cc

-- a front that is not before the key
pub first_of_some : (key : Key) (xs ys : List Element) → 1 ≤ length xs → AllByRecursion (λ e. IsFrom key (element_key e)) xs
    → first_from key (xs ++ ys) ≡ first_from key xs
first_of_some key [] ys some from = absurd (omega arith)
first_of_some key (x ∷ xs) ys some from = let here : stands_before key x ≡ false = from_not (element_key x) key from.0 in rw here refl

-- what is left of a list from a place on
pub drop_get : {A : Type 0} (xs : List A) (n : ℕ) (x : A) → slice_get xs n ≡ Some x → drop n xs ≡ x ∷ drop (suc n) xs
drop_get [] n x get = absurd cc
drop_get (y ∷ xs) zero x get = let same : y ≡ x = cc in ap (λ z. z ∷ xs) same
drop_get (y ∷ xs) (suc n) x get = drop_get xs n x get

pub drop_past : {A : Type 0} (xs : List A) (n : ℕ) → length xs ≤ n → drop n xs ≡ []
drop_past [] zero past = refl
drop_past [] (suc n) past = refl
drop_past (x ∷ xs) zero past = absurd (omega arith)
drop_past (x ∷ xs) (suc n) past = drop_past xs n (omega arith)

-- the child after the one that holds a key begins after the key
pub next_starts : (key : Key) (c : Child) (cs : List Child) (d : Child) → slice_get (c ∷ cs) (suc (begun key cs)) ≡ Some d → starts_after key d ≡ true
next_starts key c [] d get = absurd cc
next_starts key c (e ∷ cs) d get = by_test (starts_after key e) refl get (next_starts key e cs d) where
  by_test : (b : Bool) → starts_after key e ≡ b → slice_get (c ∷ e ∷ cs) (suc (if b then 0 else suc (begun key cs))) ≡ Some d
      → (slice_get (e ∷ cs) (suc (begun key cs)) ≡ Some d → starts_after key d ≡ true) → starts_after key d ≡ true
  by_test true is get more = let same : e ≡ d = cc in subst (λ (x : Child). starts_after key x ≡ true) same is
  by_test false is get more = more get

pub holder_next : (key : Key) (cs : List Child) (d : Child) → slice_get cs (suc (holder_place key cs)) ≡ Some d → IsBefore key (key_of d.left)
holder_next key [] d get = absurd cc
holder_next key (c ∷ cs) d get = before_is key (key_of d.left) (next_starts key c cs d get)

module _ (els : ℕ → List Element) (level : ℕ) (right : Base) where
  skipped : (key : Key) (c : Child) (cs : List Child) (d : Child) → IsStrictlySortedBy base_cmp (bounds right (c ∷ cs))
      → AllByRecursion (λ s. AreInside s.left s.right (els s.at)) (places_of level right (c ∷ cs))
      → slice_get (c ∷ cs) (begun key cs) ≡ Some d
      → first_from key (all_of els level right (c ∷ cs)) ≡ first_from key (els d.child ++ all_of els level right (drop (suc (begun key cs)) (c ∷ cs)))
  skipped key c [] d sorted inside get = let same : c ≡ d = cc in ap (λ (x : Child). first_from key (els x.child ++ [])) same
  skipped key c (e ∷ cs) d sorted inside get = by_test (starts_after key e) refl get (skipped key e cs d (later_sorted right c (e ∷ cs) sorted) inside.1) where
    by_test : (b : Bool) → starts_after key e ≡ b → slice_get (c ∷ e ∷ cs) (if b then 0 else suc (begun key cs)) ≡ Some d
        → (slice_get (e ∷ cs) (begun key cs) ≡ Some d → first_from key (all_of els level right (e ∷ cs)) ≡ first_from key
        (els d.child ++ all_of els level right (drop (suc (begun key cs)) (e ∷ cs))))
        → first_from key (all_of els level right (c ∷ e ∷ cs)) ≡ first_from key
        (els d.child ++ all_of els level right (drop (suc (if b then 0 else suc (begun key cs))) (c ∷ e ∷ cs)))
    by_test true is get more = let same : c ≡ d = cc in ap (λ (x : Child). first_from key (els x.child ++ all_of els level right (e ∷ cs))) same
    by_test false is get more =
        first_before key (els c.child) (all_of els level right (e ∷ cs))
        (each_so (λ x. IsInside c.left e.left (element_key x)) (λ x. stands_before key x ≡ true) (els c.child)
        (λ x within. ap is_lt (key_before_from (element_key x) (key_of e.left) key within.before (from_is key (key_of e.left) is))) inside.0) ∙ more get

  -- a search begins at the child that holds the key
  pub first_from_holder : (key : Key) (cs : List Child) (d : Child) → IsStrictlySortedBy base_cmp (bounds right cs)
      → AllByRecursion (λ s. AreInside s.left s.right (els s.at)) (places_of level right cs)
      → slice_get cs (holder_place key cs) ≡ Some d
      → first_from key (all_of els level right cs) ≡ first_from key (els d.child ++ all_of els level right (drop (suc (holder_place key cs)) cs))
  first_from_holder key [] d sorted inside get = absurd cc
  first_from_holder key (c ∷ cs) d sorted inside get = skipped key c cs d sorted inside get
