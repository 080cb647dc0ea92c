-- How many references extents have, as one comes, is shared or given back.
use Rattle.std.proofs.Common.{◌≡◌, Bool, true, false, ℕ, ◌+◌, ◌-◌, ◌<◌, ◌≤◌, List, [], ◌∷◌, Option, Some, None, refl, sym, ap, subst, ◌∙◌, arith}
use Rattle.std.proofs.Common.{cond, nat_eq, eqb-true, eq-eqb}
use Rattle.std.specs.Prelude.{◌&&◌}
use Rattle.std.specs.List.{AllByRecursion}
use Rattle.hm_types.specs.Offset.{byte_of}
use Rattle.hm_types.specs.Space.{rounded}
use Rattle.hm_freemap.specs.Extents.{is_extent, reference}
use Rattle.hm_key.specs.Extents.{AreApart, Extent, IsExtent, extent_at, given_back_at, shared_at, with_extent}
use Rattle.hm_key.proofs.BalanceLemmas.{all_elsewhere}
use Rattle.hm_freemap.proofs.CountLemmas.{bit}
use Rattle.hm_image.specs.Referred.{references_of}
use Rattle.hm_stored.specs.Log.{one_of}
use Rattle.hm_stored.proofs.PlaceLemmas.{at_shared, at_shared-others, at_with-new, at_with-others}

-- no extent stands at an offset at which none of them does
none_at : (at : ℕ) (xs : List Extent) → AllByRecursion (λ x. nat_eq x.at at ≡ false) xs → extent_at at xs ≡ None
none_at at [] each = refl
none_at at (x ∷ xs) each = rw each.0 (none_at at xs each.1)

-- one that loses its last reference is gone
at_given-last : (low at : ℕ) (e : Extent) (xs : List Extent) → AreApart low xs → AllByRecursion IsExtent xs → extent_at at xs ≡ Some e
    → nat_eq e.refs 1 ≡ true
    → extent_at at (given_back_at at xs) ≡ None
at_given-last low at e [] apart each found last = refl
at_given-last low at e (y ∷ ys) apart each found last =
    by_here (nat_eq y.at at) refl found (λ less. at_given-last (byte_of y.at + y.len) at e ys apart.1 each.1 less last) where
      by_here : (h : Bool) → nat_eq y.at at ≡ h → cond h (Some y) (extent_at at ys) ≡ Some e
          → (extent_at at ys ≡ Some e → extent_at at (given_back_at at ys) ≡ None)
          → extent_at at (cond h (cond (nat_eq y.refs 1) ys (record y { refs = y.refs - 1 } ∷ ys)) (y ∷ given_back_at at ys)) ≡ None
      by_here true is found rest =
          let same : y ≡ e = cc in
          let one : nat_eq y.refs 1 ≡ true = ap (λ (z : Extent). nat_eq z.refs 1) same ∙ last in
          let there : y.at ≡ at = eqb-true y.at at is in
          let before : byte_of at < byte_of y.at + y.len = subst (λ (n : ℕ). byte_of n < byte_of y.at + y.len) there (omega (arith, each.0.some)) in
          rw one (none_at at ys (all_elsewhere (byte_of y.at + y.len) at ys apart.1 before))
      by_here false is found rest = rw is (rest found)

-- one that loses another has one less
at_given-more : (at : ℕ) (e : Extent) (xs : List Extent) → extent_at at xs ≡ Some e → nat_eq e.refs 1 ≡ false
    → extent_at at (given_back_at at xs) ≡ Some (record e { refs = e.refs - 1 })
at_given-more at e [] found several = absurd (cc)
at_given-more at e (y ∷ ys) found several = by_here (nat_eq y.at at) refl found (λ less. at_given-more at e ys less several) where
  by_here : (h : Bool) → nat_eq y.at at ≡ h → cond h (Some y) (extent_at at ys) ≡ Some e
      → (extent_at at ys ≡ Some e → extent_at at (given_back_at at ys) ≡ Some (record e { refs = e.refs - 1 }))
      → extent_at at (cond h (cond (nat_eq y.refs 1) ys (record y { refs = y.refs - 1 } ∷ ys)) (y ∷ given_back_at at ys)) ≡ Some
      (record e { refs = e.refs - 1 })
  by_here true is found rest =
      let same : y ≡ e = cc in
      let more : nat_eq y.refs 1 ≡ false = ap (λ (z : Extent). nat_eq z.refs 1) same ∙ several in
      rw (more, is) (ap (λ (z : Extent). Some (record z { refs = z.refs - 1 })) same)
  by_here false is found rest = rw is (rest found)

at_given-others : (x at : ℕ) (xs : List Extent) → nat_eq at x ≡ false → extent_at x (given_back_at at xs) ≡ extent_at x xs
at_given-others x at [] apart = refl
at_given-others x at (y ∷ ys) apart = by_here (nat_eq y.at at) refl (nat_eq y.refs 1) (at_given-others x at ys apart) where
  by_here : (h : Bool) → nat_eq y.at at ≡ h → (last : Bool) → extent_at x (given_back_at at ys) ≡ extent_at x ys
      → extent_at x (cond h (cond last ys (record y { refs = y.refs - 1 } ∷ ys)) (y ∷ given_back_at at ys)) ≡ extent_at x (y ∷ ys)
  by_here true is last rest =
      let elsewhere : nat_eq y.at x ≡ false = subst (λ (n : ℕ). nat_eq n x ≡ false) (sym (eqb-true y.at at is)) apart in
      by_last last elsewhere where
        by_last : (last : Bool) → nat_eq y.at x ≡ false → extent_at x (cond last ys (record y { refs = y.refs - 1 } ∷ ys)) ≡ extent_at x (y ∷ ys)
        by_last true elsewhere = rw elsewhere refl
        by_last false elsewhere = rw elsewhere refl
  by_here false is last rest = ap (λ (o : Option Extent). cond (nat_eq y.at x) (Some y) o) rest

-- 1 where so many bytes at an offset are those of an extent
abbrev pub is_one : ℕ → ℕ → ℕ → ℕ → ℕ
is_one x l at len = bit (is_extent (reference x l) (reference at len))

-- the uses of an extent of a known length with one more reference
module _ (at len x l : ℕ) where
  by_place : (A : Type 0) → (at ≡ x → A) → (nat_eq at x ≡ false → A) → A
  by_place A here elsewhere = by_test (nat_eq at x) refl where
    by_test : (b : Bool) → nat_eq at x ≡ b → A
    by_test true is = here (eqb-true at x is)
    by_test false is = elsewhere is

  elsewhere_none : nat_eq at x ≡ false → is_one x l at len ≡ 0
  elsewhere_none apart = ap (λ (b : Bool). bit (b && nat_eq (rounded len) (rounded l))) apart

  here_one : at ≡ x → is_one x l at len ≡ bit (nat_eq (rounded len) (rounded l))
  here_one there = ap (λ (b : Bool). bit (b && nat_eq (rounded len) (rounded l))) (eq-eqb at x there)

  more_uses : (e : Extent) (old new : Option Extent) → old ≡ Some e → new ≡ Some (record e { refs = e.refs + 1 }) → e.len ≡ rounded len
      → references_of l new ≡ bit (nat_eq (rounded len) (rounded l)) + references_of l old
  more_uses e old new was is size = rw (was, is, size) (by_test (nat_eq (rounded len) (rounded l))) where
    by_test : (b : Bool) → cond b (e.refs + 1) 0 ≡ bit b + cond b e.refs 0
    by_test true = omega arith
    by_test false = omega arith

  pub uses_shared : (e : Extent) (xs : List Extent) → extent_at at xs ≡ Some e → e.len ≡ rounded len
      → references_of l (extent_at x (shared_at at xs)) ≡ is_one x l at len + references_of l (extent_at x xs)
  uses_shared e xs found size =
      by_place (references_of l (extent_at x (shared_at at xs)) ≡ is_one x l at len + references_of l (extent_at x xs))
      (λ there. rw (here_one there) (more_uses e (extent_at x xs) (extent_at x (shared_at at xs)) (subst (λ (n : ℕ). extent_at n xs ≡ Some e) there found)
      (subst (λ (n : ℕ). extent_at n (shared_at at xs) ≡ Some (record e { refs = e.refs + 1 })) there (at_shared at e xs found)) size))
      (λ apart. rw (elsewhere_none apart, at_shared-others x at xs apart) (omega arith))

  pub uses_placed : (xs : List Extent) → extent_at at xs ≡ None
      → references_of l (extent_at x (with_extent (one_of at len) xs)) ≡ is_one x l at len + references_of l (extent_at x xs)
  uses_placed xs none =
      by_place (references_of l (extent_at x (with_extent (one_of at len) xs)) ≡ is_one x l at len + references_of l (extent_at x xs))
      (λ there.
      let was : extent_at x xs ≡ None = subst (λ (n : ℕ). extent_at n xs ≡ None) there none in
      let is : extent_at x (with_extent (one_of at len) xs) ≡ Some (one_of at len) =
      subst (λ (n : ℕ). extent_at n (with_extent (one_of at len) xs) ≡ Some (one_of at len)) there (at_with-new (one_of at len) xs none) in
      rw (here_one there, was, is) (by_test (nat_eq (rounded len) (rounded l))))
      (λ apart. rw (elsewhere_none apart, at_with-others x at (one_of at len) xs apart) (omega arith)) where
        by_test : (b : Bool) → cond b 1 0 ≡ bit b + 0
        by_test true = omega arith
        by_test false = omega arith

  less_uses : (e : Extent) (old new : Option Extent) → old ≡ Some e → (nat_eq e.refs 1 ≡ true → new ≡ None)
      → (nat_eq e.refs 1 ≡ false → new ≡ Some (record e { refs = e.refs - 1 })) → 1 ≤ e.refs → e.len ≡ rounded len
      → bit (nat_eq (rounded len) (rounded l)) + references_of l new ≡ references_of l old
  less_uses e old new was gone less some size = by_last (nat_eq e.refs 1) refl where
    by_test : (b : Bool) → e.refs ≡ 1 → bit b + 0 ≡ cond b e.refs 0
    by_test true one = omega (arith, one)
    by_test false one = omega arith

    by_more : (b : Bool) → bit b + cond b (e.refs - 1) 0 ≡ cond b e.refs 0
    by_more true = omega (arith, some)
    by_more false = omega arith

    by_last : (last : Bool) → nat_eq e.refs 1 ≡ last → bit (nat_eq (rounded len) (rounded l)) + references_of l new ≡ references_of l old
    by_last true is = rw (was, gone is, size) (by_test (nat_eq (rounded len) (rounded l)) (eqb-true e.refs 1 is))
    by_last false is = rw (was, less is, size) (by_more (nat_eq (rounded len) (rounded l)))

  pub uses_given : (e : Extent) (xs : List Extent) → AreApart 0 xs → AllByRecursion IsExtent xs → extent_at at xs ≡ Some e → 1 ≤ e.refs → e.len ≡ rounded len
      → is_one x l at len + references_of l (extent_at x (given_back_at at xs)) ≡ references_of l (extent_at x xs)
  uses_given e xs apart each found some size =
      by_place (is_one x l at len + references_of l (extent_at x (given_back_at at xs)) ≡ references_of l (extent_at x xs))
      (λ there. rw (here_one there) (less_uses e (extent_at x xs) (extent_at x (given_back_at at xs)) (subst (λ (n : ℕ). extent_at n xs ≡ Some e) there found)
      (λ last. subst (λ (n : ℕ). extent_at n (given_back_at at xs) ≡ None) there (at_given-last 0 at e xs apart each found last))
      (λ several. subst (λ (n : ℕ). extent_at n (given_back_at at xs) ≡ Some (record e { refs = e.refs - 1 })) there (at_given-more at e xs found several))
      some size))
      (λ away. rw (elsewhere_none away, at_given-others x at xs away) (omega arith))
