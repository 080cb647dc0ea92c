-- The element at a key goes, and what a store tells then.
use Rattle.std.proofs.Common.{◌≡◌, ◌≢◌, ap, ℕ, List, true, false, true≢false, Option, Some, None, refl, sym, ◌∙◌, subst, inl, inr}
use Rattle.std.specs.Prelude.{IfSome, IsNone, OnOk, Bool, Result, Err, Ok, if◌then◌else◌, [], ◌∷◌, option_map, ◌⊎◌}
use Rattle.std.specs.List.{Contains}
use Rattle.std.specs.List.Sorted.{IsStrictlySortedBy}
use Rattle.std.specs.Ordering.{is_eq}
use Rattle.std.specs.declared.cmp.Ordering.TheVariants.{Less}
use Rattle.std.proofs.lemmas.List.Elements.{All-contains, All-from_recursion}
use Rattle.hm_types.specs.Elements.{FullElement, Key, key_cmp}
use Rattle.hm_key.specs.Balance.{full_elements, full_of}
use Rattle.hm_key.specs.Elements.{IsContent, element_at, element_cmp, element_key, removed, stands_at}
use Rattle.hm_key.specs.Extents.{AreExtents, Extent, given_back_at}
use Rattle.hm_key.specs.Sweep.{Clears}
use Rattle.hm_key.specs.declared.element.Element.{Element}
use Rattle.hm_key.proofs.BalanceLemmas.{balanced_removed, full_removed}
use Rattle.hm_key.proofs.ElementLemmas.{stands_same}
use Rattle.hm_key.proofs.KeyLemmas.{key_itself, key_not_before}
use Rattle.hm_records.proofs.MemberLemmas.{has_cases, has_head, has_map, has_none, has_tail, map_has}
use Rattle.hm_cursor.specs.Write.{Writes}
use Rattle.hm_cursor.proofs.FullLemmas.{element_at-has}
use Rattle.hm_cursor.proofs.WriteLemmas.{Became}
use Rattle.hm_pfs.specs.Records.{LosesKey}

-- an element that stands elsewhere is left
has_removed : (at : Key) (x : Element) (es : List Element) → Contains es x → element_key x ≢ at → Contains (removed at es) x
has_removed at x [] has differ = absurd (has_none x has)
has_removed at x (y ∷ es) has differ =
    by_test (stands_at at y) refl (has_cases y x es has) (λ later. has_removed at x es later differ) where
      by_test : (b : Bool) → stands_at at y ≡ b → (x ≡ y) ⊎ Contains es x → (Contains es x → Contains (removed at es) x)
          → Contains (if b then es else y ∷ removed at es) x
      by_test true is (inl first) more = absurd (differ (ap element_key first ∙ stands_same at y is))
      by_test true is (inr later) more = later
      by_test false is (inl first) more = subst (λ (z : Element). Contains (y ∷ removed at es) z) (sym first) (has_head y (removed at es))
      by_test false is (inr later) more = has_tail y x (removed at es) (more later)

-- what is left was there, and stands elsewhere
removed_has : (at : Key) (x : Element) (es : List Element) → IsStrictlySortedBy element_cmp es → Contains (removed at es) x
    → Contains es x × (element_key x ≢ at)
unfolding IsStrictlySortedBy
removed_has at x [] rising has = absurd (has_none x has)
removed_has at x (y ∷ es) rising has = by_test (stands_at at y) refl has (removed_has at x es rising.1) where
  by_test : (b : Bool) → stands_at at y ≡ b → Contains (if b then es else y ∷ removed at es) x
      → (Contains (removed at es) x → Contains es x × (element_key x ≢ at)) → Contains (y ∷ es) x × (element_key x ≢ at)
  by_test true is has more =
      let after : key_cmp (element_key y) (element_key x) ≡ Less =
      All-contains (λ (z : Element). element_cmp y z ≡ Less) es x (All-from_recursion (λ (z : Element). element_cmp y z ≡ Less) es rising.0) has in
      let alike = λ (same : element_key x ≡ at). stands_same at y is ∙ sym same in
      (has_tail y x es has, λ same. key_not_before (element_key x) (subst (λ (k : Key). key_cmp k (element_key x) ≡ Less) (alike same) after))
  by_test false is has more = elim (has_cases y x (removed at es) has) [
    | inl first ↦ (
      subst (λ (z : Element). Contains (y ∷ es) z) (sym first) (has_head y es),
      λ same. true≢false (sym (ap (λ (k : Key). is_eq (key_cmp k at)) (ap element_key (sym first) ∙ same) ∙ ap is_eq (key_itself at)) ∙ is),
    )
    | inr later ↦ let old = more later in (has_tail y x es old.0, old.1)
  ]

-- nothing stands at the key any more
none_left : (at : Key) (es : List Element) → IsStrictlySortedBy element_cmp es → IsNone (element_at at (removed at es))
none_left at es rising = by_found (element_at at (removed at es)) refl where
  by_found : (o : Option Element) → element_at at (removed at es) ≡ o → IsNone o
  by_found None is = refl
  by_found (Some e) is =
      let found = element_at-has at e (removed at es) is in
      absurd ((removed_has at e es rising found.0).1 found.1)

-- the full elements that are left
left_elements : (at : Key) (es : List Element) (xs : List Extent) → IsStrictlySortedBy element_cmp es
    → LosesKey at (full_elements es xs) (full_elements (removed at es) xs)
left_elements at es xs rising f = (to, from) where
  to : Contains (full_elements (removed at es) xs) f → Contains (full_elements es xs) f × (f.key ≢ at)
  to has =
      let (x, there, is) = map_has (full_of xs) (removed at es) f has in
      let old = removed_has at x es rising there in (
        subst (λ (z : FullElement). Contains (full_elements es xs) z) is (has_map (full_of xs) es x old.0),
        λ same. old.1 (ap (λ (z : FullElement). z.key) is ∙ same),
      )

  from : Contains (full_elements es xs) f × (f.key ≢ at) → Contains (full_elements (removed at es) xs) f
  from has =
      let (x, there, is) = map_has (full_of xs) es f has.0 in
      subst (λ (z : FullElement). Contains (full_elements (removed at es) xs) z) is
      (has_map (full_of xs) (removed at es) x (has_removed at x es there (λ same. has.1 (ap (λ (z : FullElement). z.key) (sym is) ∙ same))))

went : (e : Element) (es new_es : Option (List Element)) (xs new_xs : Option (List Extent)) → new_es ≡ option_map (removed (element_key e)) es
    → new_xs ≡ option_map (given_back_at e.payload) xs → IfSome es (λ list. element_at (element_key e) list ≡ Some e) → IfSome es IsContent
    → IfSome xs AreExtents → Became (LosesKey (element_key e)) es xs new_es new_xs
went e None new_es xs new_xs list others there content live = tt
went e (Some es) new_es None new_xs list others there content live = tt
went e (Some es) new_es (Some xs) new_xs list others there content live = λ balanced. rw (list, others) (
  balanced_removed (element_key e) e es xs there live balanced,
  subst (λ (fs : List FullElement). LosesKey (element_key e) (full_elements es xs) fs)
      (sym (full_removed (element_key e) e es xs there live balanced))
      (left_elements (element_key e) es xs content.rising),
)

lacks : (e : Element) (es new_es : Option (List Element)) → new_es ≡ option_map (removed (element_key e)) es → IfSome es IsContent
    → IfSome new_es (λ list. IsNone (element_at (element_key e) list))
lacks e None new_es list content = rw list tt
lacks e (Some es) new_es list content = rw list (none_left (element_key e) es content.rising)

module _ {S A E : Type 0} (elements_of : S → Option (List Element)) (mark_of : S → Key → ℕ) (extents_of : S → Option (List Extent)) (e : Element)
    (old new : S) (content : IfSome (elements_of old) IsContent) where
  -- an element went with its reference
  pub removed_ok : (result : Result A E) → OnOk result (Clears elements_of mark_of extents_of true e old new)
      → IfSome (elements_of old) (λ list. element_at (element_key e) list ≡ Some e) → IfSome (extents_of old) AreExtents
      → OnOk result (Writes elements_of extents_of (LosesKey (element_key e)) old new)
  removed_ok (Err error) clears there live = tt
  removed_ok (Ok value) clears there live =
      went e (elements_of old) (elements_of new) (extents_of old) (extents_of new) clears.elements clears.extents there content live

  pub lacks_ok : (result : Result A E) → OnOk result (Clears elements_of mark_of extents_of true e old new)
      → OnOk result (IfSome (elements_of new) (λ list. IsNone (element_at (element_key e) list)))
  lacks_ok (Err error) clears = tt
  lacks_ok (Ok value) clears = lacks e (elements_of old) (elements_of new) clears.elements content
