-- Lists of extents without their bytes, and what becomes of one at an offset.
use Rattle.std.proofs.Common.{◌≡◌, Bool, true, false, ℕ, ◌+◌, ◌-◌, List, [], ◌∷◌, map, Option, Some, None, refl, sym, ap, subst, cond, nat_eq, nat_lt}
use Rattle.std.proofs.Common.{eqb-true, eq-eqb}
use Rattle.std.specs.Prelude.{option_map}
use Rattle.hm_types.specs.Offset.{byte_of}
use Rattle.hm_key.specs.Extents.{Extent, extent_at, given_back_at, shared_at, with_extent}
use Rattle.hm_stored.specs.Log.{filled}

-- the bytes of extents are read after a change as before it
pub shared_filled : (bytes : List ℕ) (at : ℕ) (xs : List Extent) → shared_at at (map (filled bytes) xs) ≡ map (filled bytes) (shared_at at xs)
shared_filled bytes at [] = refl
shared_filled bytes at (x ∷ xs) = by_test (nat_eq x.at at) (shared_filled bytes at xs) where
  by_test : (b : Bool) → shared_at at (map (filled bytes) xs) ≡ map (filled bytes) (shared_at at xs)
      → cond b (record (filled bytes x) { refs = x.refs + 1 } ∷ map (filled bytes) xs) (filled bytes x ∷ shared_at at (map (filled bytes) xs))
      ≡ map (filled bytes) (cond b (record x { refs = x.refs + 1 } ∷ xs) (x ∷ shared_at at xs))
  by_test true rest = refl
  by_test false rest = ap (λ (l : List Extent). filled bytes x ∷ l) rest

pub given_filled : (bytes : List ℕ) (at : ℕ) (xs : List Extent) → given_back_at at (map (filled bytes) xs) ≡ map (filled bytes) (given_back_at at xs)
given_filled bytes at [] = refl
given_filled bytes at (x ∷ xs) = by_test (nat_eq x.at at) (nat_eq x.refs 1) (given_filled bytes at xs) where
  by_test : (b last : Bool) → given_back_at at (map (filled bytes) xs) ≡ map (filled bytes) (given_back_at at xs)
      → cond b (cond last (map (filled bytes) xs) (record (filled bytes x) { refs = x.refs - 1 } ∷ map (filled bytes) xs))
      (filled bytes x ∷ given_back_at at (map (filled bytes) xs))
      ≡ map (filled bytes) (cond b (cond last xs (record x { refs = x.refs - 1 } ∷ xs)) (x ∷ given_back_at at xs))
  by_test true true rest = refl
  by_test true false rest = refl
  by_test false last rest = ap (λ (l : List Extent). filled bytes x ∷ l) rest

pub with_filled : (bytes : List ℕ) (new : Extent) (xs : List Extent)
    → with_extent (filled bytes new) (map (filled bytes) xs) ≡ map (filled bytes) (with_extent new xs)
with_filled bytes new [] = refl
with_filled bytes new (x ∷ xs) = by_test (nat_lt (byte_of x.at) (byte_of new.at)) (with_filled bytes new xs) where
  by_test : (b : Bool) → with_extent (filled bytes new) (map (filled bytes) xs) ≡ map (filled bytes) (with_extent new xs)
      → cond b (filled bytes x ∷ with_extent (filled bytes new) (map (filled bytes) xs)) (filled bytes new ∷ filled bytes x ∷ map (filled bytes) xs)
      ≡ map (filled bytes) (cond b (x ∷ with_extent new xs) (new ∷ x ∷ xs))
  by_test true rest = ap (λ (l : List Extent). filled bytes x ∷ l) rest
  by_test false rest = refl

pub at_filled : (bytes : List ℕ) (at : ℕ) (xs : List Extent) → extent_at at (map (filled bytes) xs) ≡ option_map (filled bytes) (extent_at at xs)
at_filled bytes at [] = refl
at_filled bytes at (x ∷ xs) = by_test (nat_eq x.at at) (at_filled bytes at xs) where
  by_test : (b : Bool) → extent_at at (map (filled bytes) xs) ≡ option_map (filled bytes) (extent_at at xs)
      → cond b (Some (filled bytes x)) (extent_at at (map (filled bytes) xs)) ≡ option_map (filled bytes) (cond b (Some x) (extent_at at xs))
  by_test true rest = refl
  by_test false rest = rest

-- an extent elsewhere stays
pub at_with-others : (x at : ℕ) (new : Extent) (xs : List Extent) → nat_eq new.at x ≡ false → extent_at x (with_extent new xs) ≡ extent_at x xs
at_with-others x at new [] apart = rw apart refl
at_with-others x at new (y ∷ ys) apart = by_test (nat_lt (byte_of y.at) (byte_of new.at)) (at_with-others x at new ys apart) where
  by_test : (b : Bool) → extent_at x (with_extent new ys) ≡ extent_at x ys
      → extent_at x (cond b (y ∷ with_extent new ys) (new ∷ y ∷ ys)) ≡ extent_at x (y ∷ ys)
  by_test true rest = ap (λ (o : Option Extent). cond (nat_eq y.at x) (Some y) o) rest
  by_test false rest = rw apart refl

-- one that comes stands at its offset, where none stood
pub at_with-new : (new : Extent) (xs : List Extent) → extent_at new.at xs ≡ None → extent_at new.at (with_extent new xs) ≡ Some new
at_with-new new [] none = rw (eq-eqb new.at new.at refl) refl
at_with-new new (y ∷ ys) none = by_here (nat_eq y.at new.at) refl none (λ less. at_with-new new ys less) where
  by_here : (h : Bool) → nat_eq y.at new.at ≡ h → cond h (Some y) (extent_at new.at ys) ≡ None
      → (extent_at new.at ys ≡ None → extent_at new.at (with_extent new ys) ≡ Some new) → extent_at new.at (with_extent new (y ∷ ys)) ≡ Some new
  by_here true is none rest = absurd (cc)
  by_here false is none rest = by_test (nat_lt (byte_of y.at) (byte_of new.at)) where
    by_test : (b : Bool) → extent_at new.at (cond b (y ∷ with_extent new ys) (new ∷ y ∷ ys)) ≡ Some new
    by_test true = rw is (rest none)
    by_test false = rw (eq-eqb new.at new.at refl) refl

-- one that is shared has a reference more
pub at_shared : (at : ℕ) (e : Extent) (xs : List Extent) → extent_at at xs ≡ Some e → extent_at at (shared_at at xs) ≡ Some (record e { refs = e.refs + 1 })
at_shared at e [] found = absurd (cc)
at_shared at e (y ∷ ys) found = by_here (nat_eq y.at at) refl found (λ less. at_shared at e ys less) where
  by_here : (h : Bool) → nat_eq y.at at ≡ h → cond h (Some y) (extent_at at ys) ≡ Some e
      → (extent_at at ys ≡ Some e → extent_at at (shared_at at ys) ≡ Some (record e { refs = e.refs + 1 }))
      → extent_at at (cond h (record y { refs = y.refs + 1 } ∷ ys) (y ∷ shared_at at ys)) ≡ Some (record e { refs = e.refs + 1 })
  by_here true is found rest = let same : y ≡ e = cc in rw is (ap (λ (z : Extent). Some (record z { refs = z.refs + 1 })) same)
  by_here false is found rest = rw is (rest found)

pub at_shared-others : (x at : ℕ) (xs : List Extent) → nat_eq at x ≡ false → extent_at x (shared_at at xs) ≡ extent_at x xs
at_shared-others x at [] apart = refl
at_shared-others x at (y ∷ ys) apart = by_here (nat_eq y.at at) refl (at_shared-others x at ys apart) where
  by_here : (h : Bool) → nat_eq y.at at ≡ h → extent_at x (shared_at at ys) ≡ extent_at x ys
      → extent_at x (cond h (record y { refs = y.refs + 1 } ∷ ys) (y ∷ shared_at at ys)) ≡ extent_at x (y ∷ ys)
  by_here true is rest =
      let elsewhere : nat_eq y.at x ≡ false = subst (λ (n : ℕ). nat_eq n x ≡ false) (sym (eqb-true y.at at is)) apart in
      rw elsewhere refl
  by_here false is rest = ap (λ (o : Option Extent). cond (nat_eq y.at x) (Some y) o) rest
