-- The live extents with which some elements are balanced are one list, by the bytes that stand at their places.
use Rattle.std.proofs.Common.{◌≡◌, ℕ, ◌+◌, ◌≤◌, Bool, true, false, List, [], ◌∷◌, Option, None, Some, refl, sym, ap, subst, ◌∙◌, arith, nat_eq}
use Rattle.std.specs.Prelude.{if◌then◌else◌, IsSomeAnd}
use Rattle.std.specs.List.{AllByRecursion}
use Rattle.std.proofs.lemmas.Bool.{eq-eqb, eqb-true, eqb-false}
use Rattle.std.proofs.lemmas.List.Elements.{recursion_from_All}
use Rattle.hm_types.specs.Offset.{byte_of}
use Rattle.hm_types.specs.Space.{rounded}
use Rattle.hm_key.specs.Balance.{IsBalanced, IsHeld, references}
use Rattle.hm_key.specs.Extents.{AreApart, AreExtents, Extent, IsExtent, extent_at}
use Rattle.hm_key.specs.declared.element.Element.{Element}
use Rattle.hm_key.proofs.BalanceLemmas.{all_elsewhere, extent_each, refer_to, refer_to-cons, refers}

-- an extent at the offset of a list is told by the list
has_length : (len at : ℕ) (o : Option Extent) → IsSomeAnd o (λ x. x.len ≡ len) → (x : Extent) → o ≡ Some x → x.len ≡ len
has_length len at None held x is = absurd held
has_length len at (Some y) held x is = let same : y ≡ x = cc in subst (λ (z : Extent). z.len ≡ len) same held

-- an offset to which an element refers begins an extent in both lists, of its length
held_both : (at : ℕ) (es : List Element) (xs ys : List Extent) → 1 ≤ refer_to at es → AllByRecursion (IsHeld xs) es → AllByRecursion (IsHeld ys) es
    → (len : ℕ) × IsSomeAnd (extent_at at xs) (λ x. x.len ≡ len) × IsSomeAnd (extent_at at ys) (λ y. y.len ≡ len)
held_both at [] xs ys some first second = absurd (omega (arith, some))
held_both at (e ∷ es) xs ys some first second =
    by (nat_eq e.payload at) refl (λ more. held_both at es xs ys more first.1 second.1) where
      by : (here : Bool) → nat_eq e.payload at ≡ here
          → (1 ≤ refer_to at es → (len : ℕ) × IsSomeAnd (extent_at at xs) (λ x. x.len ≡ len) × IsSomeAnd (extent_at at ys) (λ y. y.len ≡ len))
          → (len : ℕ) × IsSomeAnd (extent_at at xs) (λ x. x.len ≡ len) × IsSomeAnd (extent_at at ys) (λ y. y.len ≡ len)
      by true is rest =
          let same : e.payload ≡ at = eqb-true e.payload at is in (
            rounded e.len,
            subst (λ (n : ℕ). IsSomeAnd (extent_at n xs) (λ x. x.len ≡ rounded e.len)) same first.0,
            subst (λ (n : ℕ). IsSomeAnd (extent_at n ys) (λ y. y.len ≡ rounded e.len)) same second.0,
          )
      by false is rest = let none : refers at e ≡ 0 = rw is refl in rest (omega (arith, some, refer_to-cons at e es))

-- extents that begin at a byte or later are found there or later
found_later : (low at : ℕ) (x : Extent) (xs : List Extent) → AreApart low xs → extent_at at xs ≡ Some x → low ≤ byte_of at
found_later low at x [] apart found = absurd cc
found_later low at x (y ∷ xs) apart found = by (nat_eq y.at at) refl found (found_later (byte_of y.at + y.len) at x xs apart.1) where
  by : (here : Bool) → nat_eq y.at at ≡ here → (if here then Some y else extent_at at xs) ≡ Some x
      → (extent_at at xs ≡ Some x → byte_of y.at + y.len ≤ byte_of at) → low ≤ byte_of at
  by true is found rest = let same : byte_of y.at ≡ byte_of at = ap byte_of (eqb-true y.at at is) in omega (arith, apart.0, same)
  by false is found rest = let later = rest found in omega (arith, apart.0, later)

-- where none stands at an offset, none is found
none_found : (at : ℕ) (xs : List Extent) → AllByRecursion (λ x. nat_eq x.at at ≡ false) xs → extent_at at xs ≡ None
none_found at [] apart = refl
none_found at (x ∷ xs) apart = rw apart.0 (none_found at xs apart.1)

found_first : (x : Extent) (xs : List Extent) → extent_at x.at (x ∷ xs) ≡ Some x
found_first x xs = ap (λ (b : Bool). if b then Some x else extent_at x.at xs) (eq-eqb x.at x.at refl)

found_next : (at : ℕ) (x : Extent) (xs : List Extent) → nat_eq x.at at ≡ false → extent_at at (x ∷ xs) ≡ extent_at at xs
found_next at x xs is = ap (λ (b : Bool). if b then Some x else extent_at at xs) is

-- two lists of extents that are apart are one, where each finds the same at each offset
one_list : (low low' : ℕ) (xs ys : List Extent) → AreApart low xs → AreApart low' ys → AllByRecursion IsExtent xs → AllByRecursion IsExtent ys
    → ((at : ℕ) → extent_at at xs ≡ extent_at at ys) → xs ≡ ys
one_list low low' [] [] apart apart' each each' same = refl
one_list low low' [] (y ∷ ys) apart apart' each each' same = absurd (let found = same y.at ∙ found_first y ys in cc)
one_list low low' (x ∷ xs) [] apart apart' each each' same = absurd (let found = sym (same x.at) ∙ found_first x xs in cc)
one_list low low' (x ∷ xs) (y ∷ ys) apart apart' each each' same =
    λ i. first i ∷ one_list (byte_of x.at + x.len) (byte_of y.at + y.len) xs ys apart.1 apart'.1 each.1 each'.1
    (λ at. rest_at at (nat_eq x.at at) refl) i where
      by : (here there : Bool) → nat_eq y.at x.at ≡ here → nat_eq x.at y.at ≡ there → x ≡ y
      by true there is is' =
          let found : extent_at x.at (y ∷ ys) ≡ Some y = ap (λ (b : Bool). if b then Some y else extent_at x.at ys) is in
          let one : Some x ≡ Some y = sym (found_first x xs) ∙ (same x.at ∙ found) in
          cc
      by false true is is' = absurd (eqb-false y.at x.at is (sym (eqb-true x.at y.at is')))
      by false false is is' =
          let later = found_later (byte_of y.at + y.len) x.at x ys apart'.1 (sym (found_next x.at y ys is) ∙ (sym (same x.at) ∙ found_first x xs)) in
          let before = found_later (byte_of x.at + x.len) y.at y xs apart.1 (sym (found_next y.at x xs is') ∙ (same y.at ∙ found_first y ys)) in
          let some = each'.0.some in
          absurd (omega (arith, later, before, some))

      first : x ≡ y
      first = by (nat_eq y.at x.at) (nat_eq x.at y.at) refl refl

      none_after : (z : Extent) (zs : List Extent) (at : ℕ) → AreApart (byte_of z.at + z.len) zs → 1 ≤ z.len → z.at ≡ at → extent_at at zs ≡ None
      none_after z zs at beside some is =
          let bytes : byte_of z.at ≡ byte_of at = ap byte_of is in
          none_found at zs (all_elsewhere (byte_of z.at + z.len) at zs beside (omega (arith, some, bytes)))

      rest_at : (at : ℕ) (here : Bool) → nat_eq x.at at ≡ here → extent_at at xs ≡ extent_at at ys
      rest_at at true is =
          let there = eqb-true x.at at is in
          none_after x xs at apart.1 each.0.some there ∙ sym (none_after y ys at apart'.1 each'.0.some (ap (λ (z : Extent). z.at) (sym first) ∙ there))
      rest_at at false is =
          let other : nat_eq y.at at ≡ false = ap (λ (z : Extent). nat_eq z.at at) (sym first) ∙ is in
          sym (found_next at x xs is) ∙ (same at ∙ found_next at y ys other)

-- extents with which these elements are balanced, with the bytes that stand at their places
pub record IsOnly (es : List Element) (bytes : ℕ → ℕ → List ℕ) (xs : List Extent) : Type 0 where
  pub live : AreExtents xs
  pub balanced : IsBalanced es xs
  pub filled : AllByRecursion (λ x. x.bytes ≡ bytes x.at x.len) xs

module _ (es : List Element) (bytes : ℕ → ℕ → List ℕ) where
  -- an extent that is found stands there, and is as long, as often referred to and as full as the elements and the bytes say
  record IsFound (at : ℕ) (x : Extent) : Type 0 where
    pub here : x.at ≡ at
    pub some : 1 ≤ refer_to at es
    pub refs : x.refs ≡ refer_to at es
    pub bytes_are : x.bytes ≡ bytes at x.len

  found : (xs : List Extent) → IsOnly es bytes xs → (at : ℕ) (x : Extent) → extent_at at xs ≡ Some x → IsFound at x
  found xs only at x is =
      let live = extent_each IsExtent at x xs (recursion_from_All IsExtent xs only.live.each) is in
      let counted = extent_each (λ y. y.refs ≡ references es y) at x xs (recursion_from_All (λ y. y.refs ≡ references es y) xs only.balanced.counted) is in
      let filled = extent_each (λ y. y.bytes ≡ bytes y.at y.len) at x xs only.filled is in
      let refs : x.refs ≡ refer_to at es = subst (λ (n : ℕ). x.refs ≡ refer_to n es) counted.1 counted.0 in
      let least = live.0.shared.0 in
      record {
        here = live.1;
        some = omega (arith, refs, least);
        refs = refs;
        bytes_are = subst (λ (n : ℕ). x.bytes ≡ bytes n x.len) filled.1 filled.0;
      }

  same_parts : (x y : Extent) → x.at ≡ y.at → x.len ≡ y.len → x.bytes ≡ y.bytes → x.refs ≡ y.refs → x ≡ y
  same_parts x y at len all refs = λ i. record { at = at i; len = len i; bytes = all i; refs = refs i }

  module _ (xs ys : List Extent) (one : IsOnly es bytes xs) (other : IsOnly es bytes ys) where
    both : (at : ℕ) → 1 ≤ refer_to at es
        → (len : ℕ) × IsSomeAnd (extent_at at xs) (λ x. x.len ≡ len) × IsSomeAnd (extent_at at ys) (λ y. y.len ≡ len)
    both at some =
        held_both at es xs ys some (recursion_from_All (IsHeld xs) es one.balanced.held) (recursion_from_All (IsHeld ys) es other.balanced.held)

    same_at : (at : ℕ) → extent_at at xs ≡ extent_at at ys
    same_at at = by (extent_at at xs) (extent_at at ys) refl refl where
      by : (o p : Option Extent) → extent_at at xs ≡ o → extent_at at ys ≡ p → o ≡ p
      by None None first second = refl
      by None (Some y) first second =
          let there = both at (found ys other at y second).some in
          absurd (subst (λ (o : Option Extent). IsSomeAnd o (λ x. x.len ≡ there.0)) first there.1)
      by (Some x) None first second =
          let there = both at (found xs one at x first).some in
          absurd (subst (λ (o : Option Extent). IsSomeAnd o (λ y. y.len ≡ there.0)) second there.2)
      by (Some x) (Some y) first second =
          let a = found xs one at x first in
          let b = found ys other at y second in
          let there = both at a.some in
          let len : x.len ≡ y.len = has_length there.0 at (extent_at at xs) there.1 x first ∙ sym (has_length there.0 at (extent_at at ys) there.2 y second) in
          ap Some (same_parts x y (a.here ∙ sym b.here) len (a.bytes_are ∙ (ap (bytes at) len ∙ sym b.bytes_are)) (a.refs ∙ sym b.refs))

    pub only_extents : xs ≡ ys
    only_extents =
        one_list 0 0 xs ys one.live.apart other.live.apart (recursion_from_All IsExtent xs one.live.each)
        (recursion_from_All IsExtent ys other.live.each) same_at
