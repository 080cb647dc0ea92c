-- Keys one after the other, and what a cursor shows of a list in order.
use Rattle.std.proofs.Common.{◌≡◌, ℕ, ◌+◌, ◌-◌, ◌*◌, ◌^◌, ◌<◌, List, Option, Some, None, sym, subst, arith, inl, inr}
use Rattle.std.specs.Prelude.{◌⊎◌, IfSome}
use Rattle.std.proofs.lemmas.Nat.{mul-add-lt}
use Rattle.std.specs.List.{Contains}
use Rattle.hm_types.specs.Elements.{Key}
use Rattle.hm_key.specs.Elements.{element_key, first_from}
use Rattle.hm_key.specs.Key.{IsBefore, IsFrom, IsKeyAfter, IsWide, key_of}
use Rattle.hm_key.specs.declared.base.Base.{Base}
use Rattle.hm_key.specs.declared.element.Element.{Element}
use Rattle.hm_key.proofs.KeyLemmas.{key_before_from, key_from_before, key_not_before}
use Rattle.hm_key.proofs.RiseLemmas.{before_rises, before_unless, from_rises, wide_to_greatest}
use Rattle.hm_cursor.specs.Shown.{IsAfter, IsNext, IsNextShown, IsShown, IsToCome}
use Rattle.hm_cursor.specs.declared.cursor.Cursor.{Cursor}
use Rattle.hm_cursor.proofs.SearchLemmas.{IsFirstFrom, found_none}
use Rattle.hm_cursor.proofs.VersionLemmas.{first_before}

-- what is to come from the key after that of a base is what stands after it
pub after_is : (base : Base) (from : Option Base) → IsKeyAfter (key_of base) from → IsAfter base from
after_is base None last key wide = (λ none. absurd none, λ before. wide_to_greatest key wide (subst (λ (k : Key). IsBefore k key) last before))
after_is base (Some next) after key wide = (key_before_from (key_of base) (key_of next) key after.1.after, after.1.first key wide)

-- it is a key of a base
pub next_wide : (at : Key) (from : Option Base) → IsKeyAfter at from → IfSome from (λ next. IsWide (key_of next))
next_wide at None last = tt
next_wide at (Some next) after = after.1.wide

-- what a cursor shows and has to come, comes from here on
abbrev pub NonePassed : List Element → Cursor → Option Base → Type 0
NonePassed es cursor from = (other : Element) → Contains es other → IsShown cursor.localization cursor.as_of.0 other
    → IsToCome cursor.from (element_key other) → IsToCome from (element_key other)

-- nothing is to come where a search finds nothing
pub next_empty : (es : List Element) (cursor : Cursor) (at : Base) → first_from (key_of at) es ≡ None → NonePassed es cursor (Some at) → IsNext es cursor None
next_empty es cursor at found passed other has shown come = passed other has shown come (found_none (key_of at) es found other has)

module _ (es : List Element) (cursor : Cursor) (at : Base) (e : Element) (search : IsFirstFrom es (key_of at) e) (passed : NonePassed es cursor (Some at))
  where
    -- nothing that is to come stands before what a search finds
    pub next_from : (other : Element) → Contains es other → IsShown cursor.localization cursor.as_of.0 other → IsToCome cursor.from (element_key other)
        → IsFrom (element_key e) (element_key other)
    next_from other has shown come = first_before es (key_of at) e other search has (passed other has shown come)

    -- what a search finds is the next one, if it is shown
    pub next_found : IsNextShown es cursor e
    next_found = record { there = search.there; first = next_from }

    -- nothing is to come where a search finds an element of a later localization
    pub next_beyond : cursor.localization < e.base.localization → IsNext es cursor None
    next_beyond beyond other has shown come =
        let up = from_rises (element_key e) (element_key other) (next_from other has shown come) in
        let place = shown.place in absurd (omega arith)

    -- where what a search finds is not shown, the search goes on after it
    pub passed_after : (from : Option Base) → IsAfter e.base from → (IsShown cursor.localization cursor.as_of.0 e → ⊥) → NonePassed es cursor from
    passed_after from after unshown other has shown come = elim (search.rest other has (passed other has shown come)) [
      | inl same ↦ absurd (unshown (subst (λ (x : Element). IsShown cursor.localization cursor.as_of.0 x) (sym same) shown))
      | inr before ↦ (after (element_key other) shown.wide).1 before
    ]

-- a key by one number, in which the first field weighs most
unfoldable pub rank : Key → ℕ
rank k = k.localization * 2 ^ 208 + (k.obj * 2 ^ 144 + (k.rec_type * 2 ^ 128 + (k.key * 2 ^ 64 + k.create)))

-- a number of two digits is below one more of the first
digits : (M m r n : ℕ) → m < n → r < M → m * M + r < n * M
digits M m r n above few = omega (arith, mul-add-lt m M r n above few)

-- and below a number whose first digit, or else whose second, is greater
digits_up : (M m r n s : ℕ) → r < M → (m < n) ⊎ ((m ≡ n) × (r < s)) → m * M + r < n * M + s
digits_up M m r n s few (inl above) = let up = digits M m r n above few in omega arith
digits_up M m r n s few (inr (same, above)) = rw same (omega arith)

ids_few : (k : Key) → IsWide k → k.key * 2 ^ 64 + k.create < 2 ^ 128
ids_few k wide = digits (2 ^ 64) k.key k.create (2 ^ 64) wide.number wide.create

types_few : (k : Key) → IsWide k → k.rec_type * 2 ^ 128 + (k.key * 2 ^ 64 + k.create) < 2 ^ 144
types_few k wide = digits (2 ^ 128) k.rec_type _ (2 ^ 16) wide.rec_type (ids_few k wide)

objects_few : (k : Key) → IsWide k → k.obj * 2 ^ 144 + (k.rec_type * 2 ^ 128 + (k.key * 2 ^ 64 + k.create)) < 2 ^ 208
objects_few k wide = digits (2 ^ 144) k.obj _ (2 ^ 64) wide.obj (types_few k wide)

rank_few : (k : Key) → IsWide k → rank k < 2 ^ 240
unfolding rank
rank_few k wide = digits (2 ^ 208) k.localization _ (2 ^ 32) wide.localization (objects_few k wide)

rank_up : (a b : Key) → IsWide a → IsBefore a b → rank a < rank b
unfolding rank
rank_up a b wide before =
    digits_up (2 ^ 208) a.localization _ b.localization _ (objects_few a wide) (map (before_rises a b before) (λ objects.
    digits_up (2 ^ 144) a.obj _ b.obj _ (types_few a wide) (map objects (λ types.
    digits_up (2 ^ 128) a.rec_type _ b.rec_type _ (ids_few a wide)
    (map types (λ ids. digits_up (2 ^ 64) a.key a.create b.key b.create wide.create ids)))))) where
      map : {P Q R S : Type 0} → P ⊎ (Q × R) → (R → S) → P ⊎ (Q × S)
      map (inl p) step = inl p
      map (inr (q, r)) step = inr (q, step r)

-- how many keys there may be from here on
abbrev pub keys_left : Option Base → ℕ
keys_left None = 0
keys_left (Some at) = 2 ^ 240 - rank (key_of at)

-- what is after a key that is from another one on, is from that one on
pub passes : (at e key : Key) → IsFrom at e → IsBefore e key → IsFrom at key
passes at e key onward before back = onward (key_before_from e key at before (key_from_before key at back))

-- fewer are left after one that a search found
pub fewer_keys : (at base : Base) (from : Option Base) → IsWide (key_of at) → IfSome from (λ b. IsWide (key_of b)) → IsFrom (key_of at) (key_of base)
    → IsAfter base from → keys_left from < keys_left (Some at)
fewer_keys at base None wide widths onward after = let few = rank_few (key_of at) wide in omega arith
fewer_keys at base (Some b) wide width onward after =
    let before : IsBefore (key_of base) (key_of b) = (after (key_of b) width).0 (key_not_before (key_of b)) in
    let passed : IsBefore (key_of at) (key_of b) =
    before_unless (key_of at) (key_of b) (λ back. onward (key_before_from (key_of base) (key_of b) (key_of at) before back)) in
    let up = rank_up (key_of at) (key_of b) wide passed in
    let few = rank_few (key_of b) width in
    omega arith
