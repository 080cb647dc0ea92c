-- The last element up to a key, among those of several children.
use Rattle.std.proofs.Common.{◌≡◌, Bool, true, false, ℕ, zero, suc, ◌≤◌, List, [], ◌∷◌, ◌++◌, length}
use Rattle.std.proofs.Common.{take, refl, sym, ap, subst, ◌∙◌, arith, if◌then◌else◌}
use Rattle.std.specs.Prelude.{Option, Some, None, slice_get}
use Rattle.std.specs.List.{AllByRecursion}
use Rattle.std.specs.List.Sorted.{IsStrictlySortedBy}
use Rattle.std.specs.Option.{option_or}
use Rattle.std.specs.Ordering.{is_lt}
use Rattle.hm_types.specs.Elements.{Key}
use Rattle.hm_key.specs.Key.{key_of, IsFrom}
use Rattle.hm_key.specs.Elements.{element_key, stands_after, last_to}
use Rattle.hm_key.specs.declared.base.Base.{Base}
use Rattle.hm_key.specs.declared.element.Element.{Element}
use Rattle.hm_key.proofs.KeyLemmas.{key_before_from}
use Rattle.hm_key.proofs.LastLemmas.{or_again}
use Rattle.hm_node.specs.Base.{base_cmp}
use Rattle.hm_node.specs.declared.inner.Child.{Child}
use Rattle.hm_search.specs.LookTo.{before_place}
use Rattle.hm_search.specs.Place.{IsInside}
use Rattle.hm_search.specs.Search.{begun, holder_place}
use Rattle.hm_search.specs.Tree.{starts_after, places_of}
use Rattle.hm_search.proofs.ChildLemmas.{bounds, later_sorted}
use Rattle.hm_search.proofs.ContentLemmas.{AreInside, all_of, from_next_on}
use Rattle.hm_search.proofs.ListLemmas.{each_so}
use Rattle.hm_search.proofs.OrderLemmas.{before_is, from_is, from_not}

pub or_none : {A : Type 0} (o : Option A) → option_or o None ≡ o
or_none None = refl
or_none (Some x) = refl

-- of two lists, the back one decides where it has such an element
pub last_append : (key : Key) (xs ys : List Element) → last_to key (xs ++ ys) ≡ option_or (last_to key ys) (last_to key xs)
last_append key [] ys = sym (or_none (last_to key ys))
last_append key (x ∷ xs) ys =
    let here = if stands_after key x then None else Some x in
    ap (λ (o : Option Element). option_or o here) (last_append key xs ys) ∙ or_again (last_to key ys) (last_to key xs) here

-- nothing that stands after the key is found
pub last_after_all : (key : Key) (xs : List Element) → AllByRecursion (λ e. stands_after key e ≡ true) xs → last_to key xs ≡ None
last_after_all key [] after = refl
last_after_all key (x ∷ xs) after = let here : stands_after key x ≡ true = after.0 in rw (last_after_all key xs after.1, here) refl

-- where there are elements, and none stands after the key, there is a last one
pub last_of_some : (key : Key) (xs : List Element) (rest : Option Element) → 1 ≤ length xs → AllByRecursion (λ e. IsFrom (element_key e) key) xs
    → option_or (last_to key xs) rest ≡ last_to key xs
last_of_some key [] rest some by = absurd (omega arith)
last_of_some key (x ∷ xs) rest some by =
    let here : stands_after key x ≡ false = from_not key (element_key x) by.0 in rw here (given (last_to key xs)) where
      given : (o : Option Element) → option_or (option_or o (Some x)) rest ≡ option_or o (Some x)
      given None = refl
      given (Some y) = refl

-- what stands before a place where nothing does
pub before_none : {A : Type 0} (xs : List A) (i : ℕ) (x : A) → slice_get xs i ≡ Some x → before_place xs i ≡ None → i ≡ 0
before_none xs zero x get none = refl
before_none [] (suc i) x get none = absurd cc
before_none (y ∷ xs) (suc zero) x get none = absurd cc
before_none (y ∷ xs) (suc (suc i)) x get none = absurd (not_last xs i x get none) where
  not_last : {A : Type 0} (xs : List A) (i : ℕ) (x : A) → slice_get xs (suc i) ≡ Some x → slice_get xs i ≡ None → ⊥
  not_last [] i x get none = absurd cc
  not_last (y ∷ xs) zero x get none = absurd cc
  not_last (y ∷ xs) (suc i) x get none = not_last xs i x get none

-- what stands before a place has one place less
pub before_some : {A : Type 0} (xs : List A) (i : ℕ) (x : A) → before_place xs i ≡ Some x → (k : ℕ) × (i ≡ suc k) × (slice_get xs k ≡ Some x)
before_some xs zero x is = absurd cc
before_some xs (suc k) x is = (k, refl, is)

-- the child that holds a key begins by it, unless it is the first
pub holder_begins : (key : Key) (cs : List Child) (d : Child) → slice_get cs (holder_place key cs) ≡ Some d → 1 ≤ holder_place key cs
    → IsFrom (key_of d.left) key
holder_begins key [] d get some = absurd cc
holder_begins key (c ∷ cs) d get some = begins c cs d get some where
  begins : (c : Child) (cs : List Child) (d : Child) → slice_get (c ∷ cs) (begun key cs) ≡ Some d → 1 ≤ begun key cs → IsFrom (key_of d.left) key
  begins c [] d get some = absurd (omega arith)
  begins c (e ∷ es) d get some = by_test (starts_after key e) refl get some (begins e es d) where
    by_test : (b : Bool) → starts_after key e ≡ b → slice_get (c ∷ e ∷ es) (if b then 0 else suc (begun key es)) ≡ Some d
        → 1 ≤ (if b then 0 else suc (begun key es))
        → (slice_get (e ∷ es) (begun key es) ≡ Some d → 1 ≤ begun key es → IsFrom (key_of d.left) key) → IsFrom (key_of d.left) key
    by_test true is get some more = absurd (omega arith)
    by_test false is get some more = by_place (begun key es) refl get where
      by_place : (n : ℕ) → begun key es ≡ n → slice_get (c ∷ e ∷ es) (suc (begun key es)) ≡ Some d → IsFrom (key_of d.left) key
      by_place zero here get =
          let first : slice_get (e ∷ es) 0 ≡ Some d = subst (λ (n : ℕ). slice_get (e ∷ es) n ≡ Some d) here get in
          let same : e ≡ d = cc in subst (λ (x : Child). IsFrom (key_of x.left) key) same (from_is key (key_of e.left) is)
      by_place (suc n) here get = more get (omega (arith, here))

module _ (els : ℕ → List Element) (level : ℕ) (right : Base) where
  -- the elements of one child more
  pub last_taken : (key : Key) (cs : List Child) (i : ℕ) (d : Child) → slice_get cs i ≡ Some d
      → last_to key (all_of els level right (take (suc i) cs)) ≡ option_or (last_to key (els d.child)) (last_to key (all_of els level right (take i cs)))
  last_taken key [] i d get = absurd cc
  last_taken key (c ∷ cs) zero d get = let same : c ≡ d = cc in
      ap (λ (x : Child). last_to key (els x.child ++ [])) same ∙ last_append key (els d.child) [] ∙ sym (or_none (last_to key (els d.child)))
  last_taken key (c ∷ cs) (suc i) d get =
      last_append key (els c.child) (all_of els level right (take (suc i) cs))
      ∙ ap (λ (o : Option Element). option_or o (last_to key (els c.child))) (last_taken key cs i d get)
      ∙ or_again (last_to key (els d.child)) (last_to key (all_of els level right (take i cs))) (last_to key (els c.child))
      ∙ ap (option_or (last_to key (els d.child))) (sym (last_append key (els c.child) (all_of els level right (take i cs))))

  left_out : (key : Key) (c : Child) (cs : List Child) (d : Child) → IsStrictlySortedBy base_cmp (bounds right (c ∷ cs))
      → AllByRecursion (λ s. AreInside s.left s.right (els s.at)) (places_of level right (c ∷ cs)) → slice_get (c ∷ cs) (begun key cs) ≡ Some d
      → last_to key (all_of els level right (c ∷ cs))
      ≡ option_or (last_to key (els d.child)) (last_to key (all_of els level right (take (begun key cs) (c ∷ cs))))
  left_out key c [] d sorted inside get = let same : c ≡ d = cc in
      ap (λ (x : Child). last_to key (els x.child ++ [])) same ∙ last_append key (els d.child) [] ∙ sym (or_none (last_to key (els d.child)))
  left_out key c (e ∷ cs) d sorted inside get =
      by_test (starts_after key e) refl get (left_out key e cs d (later_sorted right c (e ∷ cs) sorted) inside.1) where
        by_test : (b : Bool) → starts_after key e ≡ b → slice_get (c ∷ e ∷ cs) (if b then 0 else suc (begun key cs)) ≡ Some d
            → (slice_get (e ∷ cs) (begun key cs) ≡ Some d → last_to key (all_of els level right (e ∷ cs))
            ≡ option_or (last_to key (els d.child)) (last_to key (all_of els level right (take (begun key cs) (e ∷ cs)))))
            → last_to key (all_of els level right (c ∷ e ∷ cs))
            ≡ option_or (last_to key (els d.child)) (last_to key (all_of els level right (take (if b then 0 else suc (begun key cs)) (c ∷ e ∷ cs))))
        by_test true is get more =
            let same : c ≡ d = cc in
            let after = each_so (λ x. IsInside e.left right (element_key x)) (λ x. stands_after key x ≡ true) (all_of els level right (e ∷ cs))
            (λ x within. ap is_lt (key_before_from key (key_of e.left) (element_key x) (before_is key (key_of e.left) is) within.from))
            (from_next_on els level right (e ∷ cs) (later_sorted right c (e ∷ cs) sorted) inside.1) in
            last_append key (els c.child) (all_of els level right (e ∷ cs))
            ∙ rw (last_after_all key (all_of els level right (e ∷ cs)) after, same) (sym (or_none (last_to key (els d.child))))
        by_test false is get more =
            last_append key (els c.child) (all_of els level right (e ∷ cs))
            ∙ ap (λ (o : Option Element). option_or o (last_to key (els c.child))) (more get)
            ∙ or_again (last_to key (els d.child)) (last_to key (all_of els level right (take (begun key cs) (e ∷ cs)))) (last_to key (els c.child))
            ∙ ap (option_or (last_to key (els d.child))) (sym (last_append key (els c.child) (all_of els level right (take (begun key cs) (e ∷ cs)))))

  -- a search ends at the child that holds the key, or at those before it
  pub last_to_holder : (key : Key) (cs : List Child) (d : Child) → IsStrictlySortedBy base_cmp (bounds right cs)
      → AllByRecursion (λ s. AreInside s.left s.right (els s.at)) (places_of level right cs) → slice_get cs (holder_place key cs) ≡ Some d
      → last_to key (all_of els level right cs)
      ≡ option_or (last_to key (els d.child)) (last_to key (all_of els level right (take (holder_place key cs) cs)))
  last_to_holder key [] d sorted inside get = absurd cc
  last_to_holder key (c ∷ cs) d sorted inside get = left_out key c cs d sorted inside get
