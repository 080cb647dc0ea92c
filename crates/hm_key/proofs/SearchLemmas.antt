-- What a search in a list in order says of the element at a key.
use Rattle.std.proofs.Common.{◌≡◌, List, [], ◌∷◌, true, false, Bool, Option, Some, None, refl, ap, sym, ◌∙◌, subst, true≢false}
use Rattle.std.specs.Prelude.{if◌then◌else◌, is_some, ◌==◌}
use Rattle.std.specs.List.{AllByRecursion}
use Rattle.std.specs.List.Sorted.{IsStrictlySortedBy}
use Rattle.std.specs.Ordering.{is_lt, is_eq, ordering_index}
use Rattle.std.specs.declared.cmp.Ordering.{Ordering}
use Rattle.std.specs.declared.cmp.Ordering.TheVariants.{Less, Equal, Greater}
use Rattle.std.proofs.lemmas.Cmp.{is_eq_index}
use Rattle.hm_types.specs.Elements.{Key, key_cmp}
use Rattle.hm_key.specs.Elements.{element_key, element_cmp, stands_at, stands_before, element_at, first_from}
use Rattle.hm_key.specs.declared.element.Element.{Element}
use Rattle.hm_key.proofs.KeyLemmas.{key_total, key_same, key_itself, key_before}

-- what is after a key is not at it
after_not_at : (at : Key) (e : Element) → key_cmp at (element_key e) ≡ Less → stands_at at e ≡ false
after_not_at at e after = by_order (key_cmp (element_key e) at) refl where
  by_order : (o : Ordering) → key_cmp (element_key e) at ≡ o → is_eq (key_cmp (element_key e) at) ≡ false
  by_order Less is = ap is_eq is
  by_order Equal is = absurd (true≢false (ap is_lt (sym after ∙ ap (λ (k : Key). key_cmp at k) (key_same (element_key e) at is) ∙ key_itself at)))
  by_order Greater is = ap is_eq is

-- nothing stands at a key that is before all
none_after : (at : Key) (first : Element) (es : List Element) → key_cmp at (element_key first) ≡ Less → AllByRecursion (λ y. element_cmp first y ≡ Less) es
    → element_at at es ≡ None
none_after at first [] before each = refl
none_after at first (e ∷ es) before each =
    rw (after_not_at at e (key_total.trans at (element_key first) (element_key e) before each.0)) (none_after at first es before each.1)

-- the element that a search finds, if it stands at the key
abbrev pub if_at : Key → Option Element → Option Element
if_at at None = None
if_at at (Some e) = if stands_at at e then Some e else None

-- the element at a key is what a search from there finds, if that stands at the key
pub element_at-first : (at : Key) (es : List Element) → IsStrictlySortedBy element_cmp es → element_at at es ≡ if_at at (first_from at es)
unfolding IsStrictlySortedBy
element_at-first at [] rising = refl
element_at-first at (e ∷ es) rising = by_order (key_cmp (element_key e) at) refl (element_at-first at es rising.1) where
  by_order : (o : Ordering) → key_cmp (element_key e) at ≡ o → element_at at es ≡ if_at at (first_from at es)
      → (if is_eq o then Some e else element_at at es) ≡ if_at at (if is_lt o then first_from at es else Some e)
  by_order Less is more = more
  by_order Equal is more = rw is refl
  by_order Greater is more = rw is (none_after at e es (key_before at (element_key e) is) rising.0)

-- what holds of each element holds of the one that a search finds
pub found_each : (P : Element → Type 0) (at : Key) (e : Element) (es : List Element) → AllByRecursion P es → first_from at es ≡ Some e → P e
found_each P at e [] each found = absurd (cc)
found_each P at e (x ∷ es) each found = by_test (stands_before at x) found (found_each P at e es each.1) where
  by_test : (b : Bool) → (if b then first_from at es else Some x) ≡ Some e → (first_from at es ≡ Some e → P e) → P e
  by_test true found more = more found
  by_test false found more = let same : x ≡ e = cc in subst P same each.0

-- what a search finds stands at its own key
pub first_from-at : (at : Key) (e : Element) (es : List Element) → IsStrictlySortedBy element_cmp es → first_from at es ≡ Some e
    → element_at (element_key e) es ≡ Some e
unfolding IsStrictlySortedBy
first_from-at at e [] rising found = absurd (cc)
first_from-at at e (x ∷ es) rising found =
    by_test (stands_before at x) found (first_from-at at e es rising.1) (found_each (λ y. element_cmp x y ≡ Less) at e es rising.0) where
      by_test : (b : Bool) → (if b then first_from at es else Some x) ≡ Some e → (first_from at es ≡ Some e → element_at (element_key e) es ≡ Some e)
          → (first_from at es ≡ Some e → element_cmp x e ≡ Less) → (if stands_at (element_key e) x then Some x else element_at (element_key e) es) ≡ Some e
      by_test true found more before = rw (before found) (more found)
      by_test false found more before =
          let same : x ≡ e = cc in
          let here : stands_at (element_key e) x ≡ true =
          ap is_eq (ap (λ (y : Element). key_cmp (element_key y) (element_key e)) same ∙ key_itself (element_key e)) in
          rw here (ap Some same)

-- an element stands at a key where a search from there finds one that does
pub has_found : (at : Key) (e : Element) (es : List Element) (o : Ordering) (test : Bool) → IsStrictlySortedBy element_cmp es → first_from at es ≡ Some e
    → o ≡ key_cmp (element_key e) at → test ≡ (ordering_index o == 1) → test ≡ is_some (element_at at es)
has_found at e es o test rising found order tested =
    let answer : test ≡ stands_at at e = tested ∙ sym (is_eq_index o) ∙ ap is_eq order in
    answer ∙ rw (element_at-first at es rising, found) (by_test (stands_at at e)) where
      by_test : (b : Bool) → b ≡ is_some (if b then Some e else None)
      by_test true = refl
      by_test false = refl

-- no element stands at a key from which on there is none
pub has_none : (at : Key) (es : List Element) → IsStrictlySortedBy element_cmp es → first_from at es ≡ None → false ≡ is_some (element_at at es)
has_none at es rising found = rw (element_at-first at es rising, found) refl
