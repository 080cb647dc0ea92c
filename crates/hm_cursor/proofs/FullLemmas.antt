-- Elements with their payloads, as sets, after one was added with a new extent, and after one was closed.
use Rattle.std.proofs.Common.{◌≡◌, ℕ, ◌+◌, ◌≤◌, List, [], ◌∷◌, true, false, Bool, Option, Some, None, refl, ap, sym, subst, ◌∙◌, inl, inr, arith}
use Rattle.std.proofs.Common.{nat_eq, nat_lt, length}
use Rattle.std.specs.Prelude.{◌⊎◌, if◌then◌else◌}
use Rattle.std.specs.List.{AllByRecursion, Contains}
use Rattle.std.specs.List.Sorted.{IsStrictlySortedBy}
use Rattle.std.specs.Ordering.{is_eq}
use Rattle.std.specs.declared.cmp.Ordering.TheVariants.{Less}
use Rattle.std.proofs.lemmas.Bool.{eqb-true, eqb-false}
use Rattle.std.proofs.lemmas.List.Elements.{All-contains, All-from_recursion, recursion_from_All}
use Rattle.hm_types.specs.Elements.{FullElement, Key, key_cmp}
use Rattle.hm_types.specs.Offset.{byte_of}
use Rattle.hm_key.specs.Balance.{IsBalanced, IsHeld, first_bytes, full_elements, full_of, references}
use Rattle.hm_key.specs.Counts.{subject_of}
use Rattle.hm_key.specs.Elements.{changed, closed_at, element_at, element_cmp, element_key, inserted, stands_at, stands_before, with_delete}
use Rattle.hm_key.specs.Extents.{AreApart, AreExtents, Extent, PlacesAt, extent_at, with_extent}
use Rattle.hm_key.specs.Versions.{Adds}
use Rattle.hm_key.specs.declared.element.Element.{Element}
use Rattle.hm_key.proofs.AddLemmas.{payload_added}
use Rattle.hm_key.proofs.BalanceLemmas.{all_elsewhere, extent_each, refer_to, refer_to-cons}
use Rattle.hm_key.proofs.ElementLemmas.{each_changed, stands_same}
use Rattle.hm_key.proofs.KeyLemmas.{key_itself}
use Rattle.hm_records.proofs.MemberLemmas.{has_cases, has_head, has_map, has_none, has_tail, map_has}
use Rattle.hm_cursor.specs.Write.{full_with}
use Rattle.hm_cursor.proofs.RewriteLemmas.{Shut, Shuts, closed, stays}

-- ---- the element at a key

pub at_itself : (e : Element) → stands_at (element_key e) e ≡ true
at_itself e = ap is_eq (key_itself (element_key e))

-- the element at a key is in the list, and has the key
pub element_at-has : (at : Key) (e : Element) (es : List Element) → element_at at es ≡ Some e → Contains es e × (element_key e ≡ at)
element_at-has at e [] found = absurd (cc)
element_at-has at e (y ∷ es) found = by_test (stands_at at y) refl found (element_at-has at e es) where
  by_test : (b : Bool) → stands_at at y ≡ b → (if b then Some y else element_at at es) ≡ Some e
      → (element_at at es ≡ Some e → Contains es e × (element_key e ≡ at))
      → Contains (y ∷ es) e × (element_key e ≡ at)
  by_test true is found more =
      let same : y ≡ e = cc in
      (subst (λ (z : Element). Contains (y ∷ es) z) same (has_head y es), ap element_key (sym same) ∙ stands_same at y is)
  by_test false is found more = let rest = more found in (has_tail y e es rest.0, rest.1)

-- an element of a list in order is the one at its key
pub has-element_at : (e : Element) (es : List Element) → IsStrictlySortedBy element_cmp es → Contains es e → element_at (element_key e) es ≡ Some e
unfolding IsStrictlySortedBy
has-element_at e [] rising has = absurd (has_none e has)
has-element_at e (y ∷ es) rising has = elim (has_cases y e es has) [
  | inl first ↦
      let here : stands_at (element_key e) y ≡ true = subst (λ (z : Element). stands_at (element_key z) y ≡ true) (sym first) (at_itself y) in
      rw here (ap Some (sym first))
  | inr later ↦
      let after : element_cmp y e ≡ Less =
      All-contains (λ (z : Element). element_cmp y z ≡ Less) es e (All-from_recursion (λ (z : Element). element_cmp y z ≡ Less) es rising.0) later in
      let elsewhere : stands_at (element_key e) y ≡ false = ap is_eq after in
      rw elsewhere (has-element_at e es rising.1 later)
]

-- the changed element stands where it stood
pub element_at-changed : (at : Key) (change : Element → Element) (e : Element) (es : List Element) → ((x : Element) → element_key (change x) ≡ element_key x)
    → element_at at es ≡ Some e → element_at at (changed at change es) ≡ Some (change e)
element_at-changed at change e [] same found = absurd (cc)
element_at-changed at change e (y ∷ es) same found = by_test (stands_at at y) refl found (element_at-changed at change e es same) where
  by_test : (b : Bool) → stands_at at y ≡ b → (if b then Some y else element_at at es) ≡ Some e
      → (element_at at es ≡ Some e → element_at at (changed at change es) ≡ Some (change e))
      → element_at at (if b then change y ∷ es else y ∷ changed at change es) ≡ Some (change e)
  by_test true is found more =
      let it : y ≡ e = cc in
      let here : stands_at at (change y) ≡ true = ap (λ (k : Key). is_eq (key_cmp k at)) (same y) ∙ is in
      rw here (ap (λ (z : Element). Some (change z)) it)
  by_test false is found more = rw is (more found)

-- ---- one more element

has_inserted : (e x : Element) (es : List Element) → (x ≡ e) ⊎ Contains es x → Contains (inserted e es) x
has_inserted e x [] (inl new) = subst (λ (z : Element). Contains (e ∷ []) z) (sym new) (has_head e [])
has_inserted e x [] (inr old) = absurd (has_none x old)
has_inserted e x (y ∷ es) has = by_test (stands_before (element_key e) y) (has_inserted e x es) has where
  by_test : (b : Bool) → ((x ≡ e) ⊎ Contains es x → Contains (inserted e es) x) → (x ≡ e) ⊎ Contains (y ∷ es) x
      → Contains (if b then y ∷ inserted e es else e ∷ y ∷ es) x
  by_test true more (inl new) = has_tail y x (inserted e es) (more (inl new))
  by_test true more (inr old) = elim (has_cases y x es old) [
    | inl first ↦ subst (λ (z : Element). Contains (y ∷ inserted e es) z) (sym first) (has_head y (inserted e es))
    | inr later ↦ has_tail y x (inserted e es) (more (inr later))
  ]
  by_test false more (inl new) = subst (λ (z : Element). Contains (e ∷ y ∷ es) z) (sym new) (has_head e (y ∷ es))
  by_test false more (inr old) = has_tail e x (y ∷ es) old

inserted_has : (e x : Element) (es : List Element) → Contains (inserted e es) x → (x ≡ e) ⊎ Contains es x
inserted_has e x [] has = has_cases e x [] has
inserted_has e x (y ∷ es) has = by_test (stands_before (element_key e) y) (inserted_has e x es) has where
  by_test : (b : Bool) → (Contains (inserted e es) x → (x ≡ e) ⊎ Contains es x) → Contains (if b then y ∷ inserted e es else e ∷ y ∷ es) x
      → (x ≡ e) ⊎ Contains (y ∷ es) x
  by_test true more has = elim (has_cases y x (inserted e es) has) [
    | inl first ↦ inr (subst (λ (z : Element). Contains (y ∷ es) z) (sym first) (has_head y es))
    | inr later ↦ elim (more later) [
      | inl new ↦ inl new
      | inr old ↦ inr (has_tail y x es old)
    ]
  ]
  by_test false more has = has_cases e x (y ∷ es) has

-- an extent stays at its place when one comes that stands apart
extent_stays : (low at : ℕ) (x new : Extent) (xs : List Extent) → 1 ≤ new.len → AreApart low (with_extent new xs) → extent_at at xs ≡ Some x
    → extent_at at (with_extent new xs) ≡ extent_at at xs
extent_stays low at x new [] some apart found = absurd (cc)
extent_stays low at x new (y ∷ xs) some apart found =
    by_test (nat_lt (byte_of y.at) (byte_of new.at)) apart (extent_stays (byte_of y.at + y.len) at x new xs some) where
      further : (b : Bool) → nat_eq y.at at ≡ b → AreApart (byte_of y.at + y.len) (with_extent new xs)
          → (AreApart (byte_of y.at + y.len) (with_extent new xs) → extent_at at xs ≡ Some x → extent_at at (with_extent new xs) ≡ extent_at at xs)
          → extent_at at (y ∷ with_extent new xs) ≡ extent_at at (y ∷ xs)
      further true is apart more = rw is refl
      further false is apart more = rw is (more apart (rw is at found))

      first : (b : Bool) → nat_eq new.at at ≡ b → AreApart (byte_of new.at + new.len) (y ∷ xs) → extent_at at (new ∷ y ∷ xs) ≡ extent_at at (y ∷ xs)
      first true is apart =
          let none = all_elsewhere (byte_of new.at + new.len) new.at (y ∷ xs) apart (omega (arith, some)) in
          let there = extent_each (λ z. nat_eq z.at new.at ≡ false) at x (y ∷ xs) none found in
          absurd (eqb-false x.at new.at there.0 (there.1 ∙ sym (eqb-true new.at at is)))
      first false is apart = rw is refl

      by_test : (b : Bool) → AreApart low (if b then y ∷ with_extent new xs else new ∷ y ∷ xs)
          → (AreApart (byte_of y.at + y.len) (with_extent new xs) → extent_at at xs ≡ Some x → extent_at at (with_extent new xs) ≡ extent_at at xs)
          → extent_at at (if b then y ∷ with_extent new xs else new ∷ y ∷ xs) ≡ extent_at at (y ∷ xs)
      by_test true apart more = further (nat_eq y.at at) refl apart.1 more
      by_test false apart more = first (nat_eq new.at at) refl apart.1

-- an element with these bytes
abbrev with_bytes : Element → List ℕ → FullElement
with_bytes e bytes = record (full_of [] e) { bytes = bytes }

module _ (e : Element) (es : List Element) (xs ys : List Extent) (given : List ℕ) (placed : PlacesAt e.payload given xs ys) (some : 1 ≤ length given)
    (long : e.len ≡ length given) (live : AreExtents ys) (balanced : IsBalanced es xs) where
  -- the elements that were there have their payloads still
  full_stays : (x : Element) → IsHeld xs x → full_of ys x ≡ full_of xs x
  full_stays x held = by_extent (extent_at x.payload xs) refl held where
    by_extent : (o : Option Extent) → extent_at x.payload xs ≡ o → IsHeld xs x → full_of ys x ≡ full_of xs x
    by_extent None is held = absurd (rw is at held)
    by_extent (Some there) is held =
        let apart : AreApart 0 (with_extent placed.extent xs) = subst (AreApart 0) placed.list live.apart in
        let same : extent_at x.payload ys ≡ extent_at x.payload xs =
        ap (extent_at x.payload) placed.list ∙ extent_stays 0 x.payload there placed.extent xs (omega (arith, some, placed.size)) apart is in
        ap (λ (o : Option Extent). with_bytes x (first_bytes x.len o)) same

  full_new : full_of ys e ≡ full_with e.base given
  full_new = ap (with_bytes e) (payload_added e es xs ys given placed some long live balanced)

  held : (x : Element) → Contains es x → IsHeld xs x
  held x has = All-contains (IsHeld xs) es x balanced.held has

  -- the full elements are the old ones and the new one
  pub adds_placed : Adds (full_with e.base given) (full_elements es xs) (full_elements (inserted e es) ys)
  adds_placed f = (to, from) where
    to : Contains (full_elements (inserted e es) ys) f → (f ≡ full_with e.base given) ⊎ Contains (full_elements es xs) f
    to has =
        let (x, there, is) = map_has (full_of ys) (inserted e es) f has in
        elim (inserted_has e x es there) [
          | inl new ↦ inl (sym is ∙ ap (full_of ys) new ∙ full_new)
          | inr old ↦
              inr (subst (λ (z : FullElement). Contains (full_elements es xs) z) (sym (full_stays x (held x old)) ∙ is) (has_map (full_of xs) es x old))
        ]

    from : (f ≡ full_with e.base given) ⊎ Contains (full_elements es xs) f → Contains (full_elements (inserted e es) ys) f
    from (inl new) =
        subst (λ (z : FullElement). Contains (full_elements (inserted e es) ys) z) (full_new ∙ sym new)
        (has_map (full_of ys) (inserted e es) e (has_inserted e e es (inl refl)))
    from (inr old) =
        let (x, there, is) = map_has (full_of xs) es f old in
        subst (λ (z : FullElement). Contains (full_elements (inserted e es) ys) z) (full_stays x (held x there) ∙ is)
        (has_map (full_of ys) (inserted e es) x (has_inserted e x es (inr there)))

-- ---- closing

module _ (at : Key) (i : ℕ) where
  -- an element stays, or is the one at the key, which is closed
  has_closed : (e x : Element) (es : List Element) → element_at at es ≡ Some e → Contains es x
      → Contains (with_delete at i es) x ⊎ ((x ≡ e) × Contains (with_delete at i es) (closed_at i e))
  has_closed e x [] found has = absurd (has_none x has)
  has_closed e x (y ∷ es) found has = by_test (stands_at at y) found (has_closed e x es) (has_cases y x es has) where
    by_test : (b : Bool) → (if b then Some y else element_at at es) ≡ Some e
        → (element_at at es ≡ Some e → Contains es x → Contains (with_delete at i es) x ⊎ ((x ≡ e) × Contains (with_delete at i es) (closed_at i e)))
        → (x ≡ y) ⊎ Contains es x
        → Contains (if b then closed_at i y ∷ es else y ∷ with_delete at i es) x
        ⊎ ((x ≡ e) × Contains (if b then closed_at i y ∷ es else y ∷ with_delete at i es) (closed_at i e))
    by_test true found more (inl first) =
        let same : y ≡ e = cc in
        inr (first ∙ same, subst (λ (z : Element). Contains (closed_at i y ∷ es) (closed_at i z)) same (has_head (closed_at i y) es))
    by_test true found more (inr later) = inl (has_tail (closed_at i y) x es later)
    by_test false found more (inl first) = inl (subst (λ (z : Element). Contains (y ∷ with_delete at i es) z) (sym first) (has_head y (with_delete at i es)))
    by_test false found more (inr later) = elim (more found later) [
      | inl there ↦ inl (has_tail y x (with_delete at i es) there)
      | inr is ↦ inr (is.0, has_tail y (closed_at i e) (with_delete at i es) is.1)
    ]

  pub closed_has : (e x : Element) (es : List Element) → element_at at es ≡ Some e → Contains (with_delete at i es) x → Contains es x ⊎ (x ≡ closed_at i e)
  closed_has e x [] found has = absurd (has_none x has)
  closed_has e x (y ∷ es) found has = by_test (stands_at at y) found (closed_has e x es) has where
    by_test : (b : Bool) → (if b then Some y else element_at at es) ≡ Some e
        → (element_at at es ≡ Some e → Contains (with_delete at i es) x → Contains es x ⊎ (x ≡ closed_at i e))
        → Contains (if b then closed_at i y ∷ es else y ∷ with_delete at i es) x → Contains (y ∷ es) x ⊎ (x ≡ closed_at i e)
    by_test true found more has = elim (has_cases (closed_at i y) x es has) [
      | inl first ↦ let same : y ≡ e = cc in inr (first ∙ ap (closed_at i) same)
      | inr later ↦ inl (has_tail y x es later)
    ]
    by_test false found more has = elim (has_cases y x (with_delete at i es) has) [
      | inl first ↦ inl (subst (λ (z : Element). Contains (y ∷ es) z) (sym first) (has_head y es))
      | inr later ↦ elim (more found later) [
        | inl old ↦ inl (has_tail y x es old)
        | inr new ↦ inr new
      ]
    ]

  -- each extent is referred to as often as before
  refer_to-closed : (place : ℕ) (es : List Element) → refer_to place (with_delete at i es) ≡ refer_to place es
  refer_to-closed place [] = refl
  refer_to-closed place (y ∷ es) = by_test (stands_at at y) (refer_to-closed place es) where
    by_test : (b : Bool) → refer_to place (with_delete at i es) ≡ refer_to place es
        → refer_to place (if b then closed_at i y ∷ es else y ∷ with_delete at i es) ≡ refer_to place (y ∷ es)
    by_test true more = refer_to-cons place (closed_at i y) es ∙ sym (refer_to-cons place y es)
    by_test false more = omega (arith, refer_to-cons place y es, refer_to-cons place y (with_delete at i es))

  counted : (es : List Element) (xs : List Extent) → AllByRecursion (λ x. x.refs ≡ references es x) xs
      → AllByRecursion (λ x. x.refs ≡ references (with_delete at i es) x) xs
  counted es [] each = tt
  counted es (x ∷ xs) each = (each.0 ∙ sym (refer_to-closed x.at es), counted es xs each.1)

  -- the store is balanced still
  pub balanced_closed : (es : List Element) (xs : List Extent) → IsBalanced es xs → IsBalanced (with_delete at i es) xs
  balanced_closed es xs balanced = record {
    held = All-from_recursion (IsHeld xs) (with_delete at i es)
        (each_changed (IsHeld xs) at (closed_at i) es (λ e stands held. held) (recursion_from_All (IsHeld xs) es balanced.held));
    counted = All-from_recursion (λ x. x.refs ≡ references (with_delete at i es) x) xs
        (counted es xs (recursion_from_All (λ x. x.refs ≡ references es x) xs balanced.counted));
  }

  -- the full elements are the old ones, but that the one at the key was closed
  pub shuts_closed : (e : Element) (es : List Element) (xs : List Extent) → element_at at es ≡ Some e → e.base.delete ≡ 0
      → Shuts (subject_of at) i (full_elements es xs) (full_elements (with_delete at i es) xs)
  shuts_closed e es xs found open' = record { on = on; back = back } where
    key : element_key e ≡ at
    key = (element_at-has at e es found).1

    shut : Shut (subject_of at) i (full_of xs e) (full_of xs (closed_at i e))
    shut = closed (ap subject_of key) open'

    on : (f : FullElement) → Contains (full_elements es xs) f
        → (g : FullElement) × Contains (full_elements (with_delete at i es) xs) g × Shut (subject_of at) i f g
    on f has =
        let (x, there, is) = map_has (full_of xs) es f has in
        elim (has_closed e x es found there) [
          | inl still ↦
              let same : Contains (full_elements (with_delete at i es) xs) (full_of xs x) = has_map (full_of xs) (with_delete at i es) x still in
              (f, subst (λ (z : FullElement). Contains (full_elements (with_delete at i es) xs) z) is same, stays)
          | inr gone ↦ (
            full_of xs (closed_at i e),
            has_map (full_of xs) (with_delete at i es) (closed_at i e) gone.1,
            subst (λ (z : FullElement). Shut (subject_of at) i z (full_of xs (closed_at i e))) (ap (full_of xs) (sym gone.0) ∙ is) shut,
          )
        ]

    back : (g : FullElement) → Contains (full_elements (with_delete at i es) xs) g
        → (f : FullElement) × Contains (full_elements es xs) f × Shut (subject_of at) i f g
    back g has =
        let (x, there, is) = map_has (full_of xs) (with_delete at i es) g has in
        elim (closed_has e x es found there) [
          | inl old ↦ (g, subst (λ (z : FullElement). Contains (full_elements es xs) z) is (has_map (full_of xs) es x old), stays)
          | inr new ↦ (
            full_of xs e,
            has_map (full_of xs) es e (element_at-has at e es found).0,
            subst (λ (z : FullElement). Shut (subject_of at) i (full_of xs e) z) (ap (full_of xs) (sym new) ∙ is) shut,
          )
        ]
