-- Which extent is found at an offset, when one comes to a list or is shared.
use Rattle.std.proofs.Common.{◌≡◌, ◌≢◌, ◌⊎◌, inl, inr, Bool, true, false, ℕ, ◌+◌, ◌≤◌, List, [], ◌∷◌, Some, None}
use Rattle.std.proofs.Common.{refl, sym, ◌∙◌, arith, nat_eq, nat_lt, eq-eqb, eqb-true}
use Rattle.std.specs.Prelude.{if◌then◌else◌, option_map}
use Rattle.std.specs.List.{AllByRecursion}
use Rattle.std.proofs.lemmas.Bool.{eqb-false, ltb-true, ltb-false, ne_eqb}
use Rattle.hm_types.specs.Offset.{byte_of}
use Rattle.hm_key.specs.Extents.{AreApart, Extent, IsExtent, extent_at, shared_at, with_extent}
use Rattle.hm_key.proofs.BalanceLemmas.{all_elsewhere}
use Rattle.hm_search.proofs.ListLemmas.{each_both, each_so}

-- an extent with one more reference
abbrev pub one_more : Extent → Extent
one_more x = record x { refs = x.refs + 1 }

-- where none is found, none stands
pub none_stands : (at : ℕ) (xs : List Extent) → extent_at at xs ≡ None → AllByRecursion (λ x. x.at ≢ at) xs
none_stands at [] none = tt
none_stands at (x ∷ xs) none = by_test (nat_eq x.at at) refl none (none_stands at xs) where
  by_test : (b : Bool) → nat_eq x.at at ≡ b → (if b then Some x else extent_at at xs) ≡ None
      → (extent_at at xs ≡ None → AllByRecursion (λ y. y.at ≢ at) xs) → AllByRecursion (λ y. y.at ≢ at) (x ∷ xs)
  by_test true is none more = absurd cc
  by_test false is none more = (eqb-false x.at at is, more none)

-- a new extent is found at its own offset, and the others are where they were
pub found_with : (new : Extent) (xs : List Extent) (at : ℕ) → AllByRecursion (λ x. x.at ≢ new.at) xs
    → extent_at at (with_extent new xs) ≡ (if nat_eq new.at at then Some new else extent_at at xs)
found_with new [] at none = refl
found_with new (x ∷ xs) at none =
    by_order (nat_lt (byte_of x.at) (byte_of new.at)) (nat_eq x.at at) refl (nat_eq new.at at) refl (found_with new xs at none.1) where
      by_order : (before old : Bool) → nat_eq x.at at ≡ old → (here : Bool) → nat_eq new.at at ≡ here
          → extent_at at (with_extent new xs) ≡ (if here then Some new else extent_at at xs)
          → extent_at at (if before then x ∷ with_extent new xs else new ∷ x ∷ xs)
          ≡ (if here then Some new else (if old then Some x else extent_at at xs))
      by_order true true first true second rest = absurd (none.0 (eqb-true x.at at first ∙ sym (eqb-true new.at at second)))
      by_order true true first false second rest = rw first refl
      by_order true false first here second rest = rw first rest
      by_order false old first true second rest = rw second refl
      by_order false old first false second rest = rw (second, first) refl

-- the extent that is shared is found with one more reference, and the others are as they were
pub found_shared : (to : ℕ) (xs : List Extent) (at : ℕ)
    → extent_at at (shared_at to xs) ≡ (if nat_eq to at then option_map one_more (extent_at at xs) else extent_at at xs)
found_shared to [] at = by_test (nat_eq to at) where
  by_test : (b : Bool) → None ≡ (if b then option_map one_more None else None)
  by_test true = refl
  by_test false = refl
found_shared to (x ∷ xs) at = by_place (nat_eq x.at to) refl (nat_eq x.at at) refl (nat_eq to at) refl (found_shared to xs at) where
  by_place : (mine : Bool) → nat_eq x.at to ≡ mine → (old : Bool) → nat_eq x.at at ≡ old → (here : Bool) → nat_eq to at ≡ here
      → extent_at at (shared_at to xs) ≡ (if here then option_map one_more (extent_at at xs) else extent_at at xs)
      → extent_at at (if mine then one_more x ∷ xs else x ∷ shared_at to xs)
      ≡ (if here then option_map one_more (if old then Some x else extent_at at xs) else (if old then Some x else extent_at at xs))
  by_place true a true b true c rest = rw b refl
  by_place true a true b false c rest = absurd (eqb-false to at c (sym (eqb-true x.at to a) ∙ eqb-true x.at at b))
  by_place true a false b true c rest = absurd (eqb-false x.at at b (eqb-true x.at to a ∙ eqb-true to at c))
  by_place true a false b false c rest = rw b refl
  by_place false a true b true c rest = absurd (eqb-false x.at to a (eqb-true x.at at b ∙ sym (eqb-true to at c)))
  by_place false a true b false c rest = rw b refl
  by_place false a false b here c rest = rw b rest

-- a fact of each extent and of a new one
pub each_with : (P : Extent → Type 0) (new : Extent) (xs : List Extent) → P new → AllByRecursion P xs → AllByRecursion P (with_extent new xs)
each_with P new [] fact each = (fact, tt)
each_with P new (x ∷ xs) fact each = by_test (nat_lt (byte_of x.at) (byte_of new.at)) (each_with P new xs fact each.1) where
  by_test : (b : Bool) → AllByRecursion P (with_extent new xs) → AllByRecursion P (if b then x ∷ with_extent new xs else new ∷ x ∷ xs)
  by_test true more = (each.0, more)
  by_test false more = (fact, each)

-- and of each when one is shared, where it does not speak of references
pub each_shared : (P : Extent → Type 0) (to : ℕ) (xs : List Extent) → ((x : Extent) → P x → P (one_more x)) → AllByRecursion P xs
    → AllByRecursion P (shared_at to xs)
each_shared P to [] so each = tt
each_shared P to (x ∷ xs) so each = by_test (nat_eq x.at to) (each_shared P to xs so each.1) where
  by_test : (b : Bool) → AllByRecursion P (shared_at to xs) → AllByRecursion P (if b then one_more x ∷ xs else x ∷ shared_at to xs)
  by_test true more = (so x each.0, each.1)
  by_test false more = (each.0, more)

-- two extents share no byte
abbrev pub AreBeside : Extent → Extent → Type 0
AreBeside x y = (byte_of x.at + x.len ≤ byte_of y.at) ⊎ (byte_of y.at + y.len ≤ byte_of x.at)

-- a new extent that shares no byte with any leaves them apart
pub apart_with : (low : ℕ) (new : Extent) (xs : List Extent) → low ≤ byte_of new.at → 1 ≤ new.len → AllByRecursion (λ x. 1 ≤ x.len) xs
    → AllByRecursion (AreBeside new) xs → AreApart low xs → AreApart low (with_extent new xs)
apart_with low new [] from some long beside apart = (from, tt)
apart_with low new (x ∷ xs) from some long beside apart =
    let later = λ (after : byte_of x.at + x.len ≤ byte_of new.at). apart_with (byte_of x.at + x.len) new xs after some long.1 beside.1 apart.1 in
    by_order (nat_lt (byte_of x.at) (byte_of new.at)) refl later beside.0 where
      by_order : (b : Bool) → nat_lt (byte_of x.at) (byte_of new.at) ≡ b
          → (byte_of x.at + x.len ≤ byte_of new.at → AreApart (byte_of x.at + x.len) (with_extent new xs)) → AreBeside new x
          → AreApart low (if b then x ∷ with_extent new xs else new ∷ x ∷ xs)
      by_order true is more (inl before) = absurd (omega (arith, before, ltb-true (byte_of x.at) (byte_of new.at) is))
      by_order true is more (inr after) = (apart.0, more after)
      by_order false is more (inl before) = (from, (before, apart.1))
      by_order false is more (inr after) = absurd (omega (arith, after, ltb-false (byte_of x.at) (byte_of new.at) is, long.0))

-- each live extent is the one that is found where it stands
pub each_found : (low : ℕ) (xs : List Extent) → AreApart low xs → AllByRecursion IsExtent xs → AllByRecursion (λ x. extent_at x.at xs ≡ Some x) xs
each_found low [] apart live = tt
each_found low (x ∷ xs) apart live =
    let end = byte_of x.at + x.len in
    let IsOther : Extent → Type 0 = λ y. nat_eq y.at x.at ≡ false in
    let IsFound : Extent → Type 0 = λ y. extent_at y.at xs ≡ Some y in
    let elsewhere = all_elsewhere end x.at xs apart.1 (omega (arith, live.0.some)) in
    let rest = each_found end xs apart.1 live.1 in (
      rw (eq-eqb x.at x.at refl) refl,
      each_so (λ y. IsOther y × IsFound y) (λ y. extent_at y.at (x ∷ xs) ≡ Some y) xs
          (λ y both. rw (ne_eqb x.at y.at (λ same. eqb-false y.at x.at both.0 (sym same))) both.1)
          (each_both IsOther IsFound xs elsewhere rest),
    )
