-- A balanced store to which an element comes with a new extent.
use Rattle.std.proofs.Common.{◌≡◌, ℕ, ◌+◌, ◌≤◌, List, [], ◌∷◌, true, false, Bool, Option, Some, None, refl, ap, sym, ◌∙◌, subst, arith, nat_eq, nat_lt, length}
use Rattle.std.specs.Prelude.{if◌then◌else◌, IsSomeAnd}
use Rattle.std.specs.List.{AllByRecursion}
use Rattle.std.proofs.lemmas.Bool.{eq-eqb, ne_eqb, eqb-false, ltb-true}
use Rattle.std.proofs.lemmas.List.Elements.{All-from_recursion, recursion_from_All}
use Rattle.hm_types.specs.Offset.{byte_of}
use Rattle.hm_key.specs.Elements.{element_key, stands_before, inserted}
use Rattle.hm_types.specs.Space.{rounded}
use Rattle.hm_key.specs.Extents.{Extent, AreApart, AreExtents, PlacesAt, extent_at, with_extent}
use Rattle.hm_key.specs.Balance.{IsHeld, references, IsBalanced, payload_of}
use Rattle.hm_key.specs.declared.element.Element.{Element}
use Rattle.hm_key.proofs.ElementLemmas.{each_inserted}
use Rattle.hm_key.proofs.BalanceLemmas.{refer_to, refers, refer_to-cons, extent_each, all_elsewhere}

-- an extent elsewhere stays when a new one comes
pub extent_at-others : (at : ℕ) (new : Extent) (xs : List Extent) → nat_eq new.at at ≡ false → extent_at at (with_extent new xs) ≡ extent_at at xs
extent_at-others at new [] apart = rw apart refl
extent_at-others at new (x ∷ xs) apart = by_test (nat_lt (byte_of x.at) (byte_of new.at)) (extent_at-others at new xs apart) where
  by_test : (b : Bool) → extent_at at (with_extent new xs) ≡ extent_at at xs
      → extent_at at (if b then x ∷ with_extent new xs else new ∷ x ∷ xs) ≡ extent_at at (x ∷ xs)
  by_test true more = ap (λ (o : Option Extent). if nat_eq x.at at then Some x else o) more
  by_test false more = rw apart refl

-- a new extent is the one at its place, where there was none
pub extent_at-new : (new : Extent) (xs : List Extent) → AllByRecursion (λ x. nat_eq x.at new.at ≡ false) xs → extent_at new.at (with_extent new xs) ≡ Some new
extent_at-new new [] apart = rw (eq-eqb new.at new.at refl) refl
extent_at-new new (x ∷ xs) apart = by_test (nat_lt (byte_of x.at) (byte_of new.at)) (extent_at-new new xs apart.1) where
  by_test : (b : Bool) → extent_at new.at (with_extent new xs) ≡ Some new → extent_at new.at (if b then x ∷ with_extent new xs else new ∷ x ∷ xs) ≡ Some new
  by_test true more = rw apart.0 more
  by_test false more = rw (eq-eqb new.at new.at refl) refl

-- a new extent that is apart from the others stands elsewhere
pub new_elsewhere : (low : ℕ) (new : Extent) (xs : List Extent) → 1 ≤ new.len → AreApart low (with_extent new xs)
    → AllByRecursion (λ x. nat_eq x.at new.at ≡ false) xs
new_elsewhere low new [] some apart = tt
new_elsewhere low new (x ∷ xs) some apart = by_test (nat_lt (byte_of x.at) (byte_of new.at)) refl apart (new_elsewhere (byte_of x.at + x.len) new xs some) where
  by_test : (b : Bool) → nat_lt (byte_of x.at) (byte_of new.at) ≡ b → AreApart low (if b then x ∷ with_extent new xs else new ∷ x ∷ xs)
      → (AreApart (byte_of x.at + x.len) (with_extent new xs) → AllByRecursion (λ y. nat_eq y.at new.at ≡ false) xs)
      → AllByRecursion (λ y. nat_eq y.at new.at ≡ false) (x ∷ xs)
  by_test true is apart more = (
    ne_eqb x.at new.at (λ same. let bytes : byte_of x.at ≡ byte_of new.at = ap byte_of same in omega (arith, ltb-true (byte_of x.at) (byte_of new.at) is)),
    more apart.1,
  )
  by_test false is apart more = all_elsewhere (byte_of new.at + new.len) new.at (x ∷ xs) apart.1 (omega (arith, some))

-- a fact of each extent and of a new one
each_with : (P : Extent → Type 0) (new : Extent) (xs : List Extent) → P new → AllByRecursion P xs → AllByRecursion P (with_extent new xs)
each_with P new [] fact each = (fact, tt)
each_with P new (x ∷ xs) fact each = by_test (nat_lt (byte_of x.at) (byte_of new.at)) (each_with P new xs fact each.1) where
  by_test : (b : Bool) → AllByRecursion P (with_extent new xs) → AllByRecursion P (if b then x ∷ with_extent new xs else new ∷ x ∷ xs)
  by_test true more = (each.0, more)
  by_test false more = (fact, each)

-- a new element brings its reference
refer_to-inserted : (at : ℕ) (e : Element) (es : List Element) → refer_to at (inserted e es) ≡ refers at e + refer_to at es
refer_to-inserted at e [] = refer_to-cons at e []
refer_to-inserted at e (y ∷ es) = by_test (stands_before (element_key e) y) (refer_to-inserted at e es) where
  by_test : (b : Bool) → refer_to at (inserted e es) ≡ refers at e + refer_to at es
      → refer_to at (if b then y ∷ inserted e es else e ∷ y ∷ es) ≡ refers at e + refer_to at (y ∷ es)
  by_test true more = omega (arith, refer_to-cons at y es, refer_to-cons at y (inserted e es))
  by_test false more = refer_to-cons at e (y ∷ es)

-- no element refers to an offset
pub refer_to-none : (at : ℕ) (es : List Element) → AllByRecursion (λ e. nat_eq e.payload at ≡ false) es → refer_to at es ≡ 0
refer_to-none at [] each = refl
refer_to-none at (e ∷ es) each =
    let none : refers at e ≡ 0 = rw each.0 refl in
    omega (arith, refer_to-cons at e es, refer_to-none at es each.1)

module _ (e : Element) (es : List Element) (xs ys : List Extent) (given : List ℕ) (placed : PlacesAt e.payload given xs ys) (some : 1 ≤ length given)
    (long : e.len ≡ length given) (live : AreExtents ys) (balanced : IsBalanced es xs) where
  -- the extents that were there stand elsewhere
  others : AllByRecursion (λ x. nat_eq x.at placed.extent.at ≡ false) xs
  others = new_elsewhere 0 placed.extent xs (omega (arith, some, placed.size)) (subst (AreApart 0) placed.list live.apart)

  -- so do the payloads of the elements that were there
  old_elsewhere : (list : List Element) → AllByRecursion (IsHeld xs) list → AllByRecursion (λ y. nat_eq y.payload placed.extent.at ≡ false) list
  old_elsewhere [] held = tt
  old_elsewhere (y ∷ list) held = (by_extent (extent_at y.payload xs) refl held.0, old_elsewhere list held.1) where
    by_extent : (o : Option Extent) → extent_at y.payload xs ≡ o → IsSomeAnd o (λ x. x.len ≡ rounded y.len) → nat_eq y.payload placed.extent.at ≡ false
    by_extent None is held = absurd held
    by_extent (Some x) is held =
        let there = extent_each (λ z. nat_eq z.at placed.extent.at ≡ false) y.payload x xs others is in subst
        (λ (at : ℕ). nat_eq at placed.extent.at ≡ false) there.1 there.0

  -- the new extent is the one at the new element's payload
  extent_here : extent_at e.payload ys ≡ Some placed.extent
  extent_here =
      let new : extent_at placed.extent.at (with_extent placed.extent xs) ≡ Some placed.extent = extent_at-new placed.extent xs others in
      subst (λ (at : ℕ). extent_at at ys ≡ Some placed.extent) placed.place
      (subst (λ (list : List Extent). extent_at placed.extent.at list ≡ Some placed.extent) (sym placed.list) new)

  -- the payload of the new element is the given bytes
  pub payload_added : payload_of ys e ≡ given
  payload_added = rw (extent_here, long) placed.begin

  -- elements that were there are held as before
  held_before : (list : List Element) → AllByRecursion (IsHeld xs) list → AllByRecursion (λ y. nat_eq y.payload placed.extent.at ≡ false) list
      → AllByRecursion (IsHeld ys) list
  held_before [] held apart = tt
  held_before (y ∷ list) held apart =
      let elsewhere : nat_eq placed.extent.at y.payload ≡ false =
      ne_eqb placed.extent.at y.payload (λ same. eqb-false y.payload placed.extent.at apart.0 (sym same)) in
      let stays : extent_at y.payload ys ≡ extent_at y.payload xs =
      ap (extent_at y.payload) placed.list ∙ extent_at-others y.payload placed.extent xs elsewhere in
      (subst (λ (o : Option Extent). IsSomeAnd o (λ x. x.len ≡ rounded y.len)) (sym stays) held.0, held_before list held.1 apart.1)

  -- extents that were there are referred to as before
  counted_before : (list : List Extent) → AllByRecursion (λ x. x.refs ≡ references es x) list → AllByRecursion (λ x. nat_eq x.at placed.extent.at ≡ false) list
      → AllByRecursion (λ x. x.refs ≡ references (inserted e es) x) list
  counted_before [] counted apart = tt
  counted_before (x ∷ list) counted apart =
      let none : refers x.at e ≡ 0 = rw (ne_eqb e.payload x.at (λ same. eqb-false x.at placed.extent.at apart.0 (sym same ∙ sym placed.place))) refl in
      (omega (arith, counted.0, refer_to-inserted x.at e es), counted_before list counted.1 apart.1)

  held_all : AllByRecursion (IsHeld xs) es
  held_all = recursion_from_All (IsHeld xs) es balanced.held

  -- the new extent has the new element's reference alone
  counted_new : placed.extent.refs ≡ references (inserted e es) placed.extent
  counted_new =
      let own : refers placed.extent.at e ≡ 1 = rw (eq-eqb e.payload placed.extent.at (sym placed.place)) refl in
      let none : refer_to placed.extent.at es ≡ 0 = refer_to-none placed.extent.at es (old_elsewhere es held_all) in
      omega (arith, placed.one, refer_to-inserted placed.extent.at e es)

  held_new : IsHeld ys e
  held_new = rw extent_here (placed.size ∙ ap rounded (sym long))

  -- the store is balanced still
  pub balanced_added : IsBalanced (inserted e es) ys
  balanced_added = record {
    held = All-from_recursion (IsHeld ys) (inserted e es) (each_inserted (IsHeld ys) e es held_new (held_before es held_all (old_elsewhere es held_all)));
    counted =
        All-from_recursion (λ x. x.refs ≡ references (inserted e es) x) ys
        (subst (AllByRecursion (λ x. x.refs ≡ references (inserted e es) x)) (sym placed.list)
        (each_with (λ x. x.refs ≡ references (inserted e es) x) placed.extent xs counted_new
        (counted_before xs (recursion_from_All (λ x. x.refs ≡ references es x) xs balanced.counted) others)));
  }

-- the same of a store that placed the bytes and then inserted the element
pub balanced_placed : (e : Element) (es mid_es new_es : List Element) (xs mid_xs new_xs : List Extent) (given : List ℕ) → Some mid_es ≡ Some es
    → PlacesAt e.payload given xs mid_xs → Some new_es ≡ Some (inserted e mid_es) → Some new_xs ≡ Some mid_xs → 1 ≤ length given → e.len ≡ length given
    → AreExtents mid_xs → IsBalanced es xs → IsBalanced new_es new_xs
balanced_placed e es mid_es new_es xs mid_xs new_xs given kept placed list others some long live balanced =
    let was : mid_es ≡ es = cc in
    let now : new_es ≡ inserted e es = cc in
    let held : new_xs ≡ mid_xs = cc in
    rw (now, held) (balanced_added e es xs mid_xs given placed some long live balanced)
