-- What a search in a list in order finds.
use Rattle.std.proofs.Common.{◌≡◌, zero, suc, arith, List, [], ◌∷◌, true, false, Bool, Option, Some, None, refl, ap, sym, ◌∙◌, subst, true≢false, inl, inr}
use Rattle.std.specs.Prelude.{◌⊎◌, if◌then◌else◌}
use Rattle.std.specs.List.{Contains}
use Rattle.std.specs.List.Sorted.{IsStrictlySortedBy}
use Rattle.std.specs.Option.{option_or}
use Rattle.std.specs.Ordering.{is_lt}
use Rattle.std.specs.declared.cmp.Ordering.{Ordering}
use Rattle.std.specs.declared.cmp.Ordering.TheVariants.{Less, Equal, Greater}
use Rattle.std.proofs.lemmas.List.Elements.{All-from_recursion, All-contains, Contains-append_right, Contains-append_cases}
use Rattle.hm_types.specs.Elements.{Key, key_cmp}
use Rattle.hm_key.specs.Elements.{element_key, element_cmp, first_from, last_to, stands_after, stands_before}
use Rattle.hm_key.specs.Key.{IsBefore, IsFrom}
use Rattle.hm_key.specs.declared.element.Element.{Element}
use Rattle.hm_key.proofs.KeyLemmas.{key_from_before, key_not_before}

-- this is the first element from a key on: each other one from there on stands after it
pub record IsFirstFrom (es : List Element) (at : Key) (e : Element) : Type 0 where
  pub there : Contains es e
  pub from : IsFrom at (element_key e)
  pub rest : (other : Element) → Contains es other → IsFrom at (element_key other) → (e ≡ other) ⊎ IsBefore (element_key e) (element_key other)

-- an element of a list is its first one or a later one
first_or_later : (x : Element) (xs : List Element) (z : Element) → Contains (x ∷ xs) z → (x ≡ z) ⊎ Contains xs z
first_or_later x xs z has = elim (Contains-append_cases (x ∷ []) xs z has) [
  | inl first ↦ inl (only first)
  | inr later ↦ inr later
] where
  only : Contains (x ∷ []) z → x ≡ z
  only (zero, inside, is) = is
  only (suc k, inside, is) = absurd (omega arith)

is_before : (o : Ordering) → is_lt o ≡ true → o ≡ Less
is_before Less is = refl
is_before Equal is = absurd (true≢false (sym is))
is_before Greater is = absurd (true≢false (sym is))

-- what a search finds is the first from its key on
pub found_first : (at : Key) (e : Element) (es : List Element) → IsStrictlySortedBy element_cmp es → first_from at es ≡ Some e → IsFirstFrom es at e
unfolding IsStrictlySortedBy
found_first at e [] rising found = absurd (cc)
found_first at e (x ∷ es) rising found = by_test (stands_before at x) refl found (found_first at e es rising.1) where
  by_test : (b : Bool) → stands_before at x ≡ b → (if b then first_from at es else Some x) ≡ Some e → (first_from at es ≡ Some e → IsFirstFrom es at e)
      → IsFirstFrom (x ∷ es) at e
  by_test true is found more = let later = more found in record {
    there = Contains-append_right (x ∷ []) es e later.there;
    from = later.from;
    rest = λ other has from. elim (first_or_later x es other has) [
      | inl same ↦ absurd (subst (λ (y : Element). IsFrom at (element_key y)) (sym same) from (is_before (key_cmp (element_key x) at) is))
      | inr has ↦ later.rest other has from
    ];
  }
  by_test false is found more = let same : x ≡ e = cc in record {
    there = (0, omega arith, same);
    from = λ before. true≢false (sym (ap is_lt before) ∙ subst (λ (y : Element). stands_before at y ≡ false) same is);
    rest = λ other has from. elim (first_or_later x es other has) [
      | inl is ↦ inl (sym same ∙ is)
      | inr has ↦
          let after : element_cmp x other ≡ Less =
          All-contains (λ y. element_cmp x y ≡ Less) es other (All-from_recursion (λ y. element_cmp x y ≡ Less) es rising.0) has in
          inr (subst (λ (y : Element). element_cmp y other ≡ Less) same after)
    ];
  }

-- where a search finds none, each element stands before its key
pub found_none : (at : Key) (es : List Element) → first_from at es ≡ None → (other : Element) → Contains es other → IsBefore (element_key other) at
found_none at [] found other (k, inside, is) = absurd (omega arith)
found_none at (x ∷ es) found other has = by_test (stands_before at x) refl found (found_none at es) where
  by_test : (b : Bool) → stands_before at x ≡ b → (if b then first_from at es else Some x) ≡ None
      → (first_from at es ≡ None → (z : Element) → Contains es z → IsBefore (element_key z) at) → IsBefore (element_key other) at
  by_test true is none more = elim (first_or_later x es other has) [
    | inl same ↦ subst (λ (y : Element). IsBefore (element_key y) at) same (is_before (key_cmp (element_key x) at) is)
    | inr later ↦ more none other later
  ]
  by_test false is none more = absurd (cc)

-- this is the last element up to a key: each other one up to there stands before it
pub record IsLastTo (es : List Element) (at : Key) (e : Element) : Type 0 where
  pub there : Contains es e
  pub to : IsFrom (element_key e) at
  pub rest : (other : Element) → Contains es other → IsFrom (element_key other) at → IsFrom (element_key other) (element_key e)

-- where a search up to a key finds none, each element stands after the key
pub none_to : (at : Key) (es : List Element) → last_to at es ≡ None → (other : Element) → Contains es other → IsBefore at (element_key other)
none_to at [] found other (k, inside, is) = absurd (omega arith)
none_to at (x ∷ es) found other has = by_later (last_to at es) refl found (none_to at es) where
  by_test : (b : Bool) → stands_after at x ≡ b → (if b then None else Some x) ≡ None → IsBefore at (element_key x)
  by_test true is none = is_before (key_cmp at (element_key x)) is
  by_test false is none = absurd (cc)

  by_later : (o : Option Element) → last_to at es ≡ o → option_or o (if stands_after at x then None else Some x) ≡ None
      → (last_to at es ≡ None → (z : Element) → Contains es z → IsBefore at (element_key z)) → IsBefore at (element_key other)
  by_later (Some y) is none more = absurd (cc)
  by_later None is none more = elim (first_or_later x es other has) [
    | inl same ↦ subst (λ (y : Element). IsBefore at (element_key y)) same (by_test (stands_after at x) refl none)
    | inr later ↦ more is other later
  ]

-- what a search up to a key finds is the last one up to there
pub found_last : (at : Key) (e : Element) (es : List Element) → IsStrictlySortedBy element_cmp es → last_to at es ≡ Some e → IsLastTo es at e
unfolding IsStrictlySortedBy
found_last at e [] rising found = absurd (cc)
found_last at e (x ∷ es) rising found = by_later (last_to at es) refl found (found_last at e es rising.1) where
  by_test : (b : Bool) → stands_after at x ≡ b → last_to at es ≡ None → (if b then None else Some x) ≡ Some e → IsLastTo (x ∷ es) at e
  by_test true is none found = absurd (cc)
  by_test false is none found = let same : x ≡ e = cc in record {
    there = (0, omega arith, same);
    to = λ before. true≢false (sym (ap is_lt before) ∙ subst (λ (y : Element). stands_after at y ≡ false) same is);
    rest = λ other has to. elim (first_or_later x es other has) [
      | inl first ↦ subst (λ (y : Element). IsFrom (element_key y) (element_key e)) (sym same ∙ first) (key_not_before (element_key e))
      | inr later ↦ absurd (to (none_to at es none other later))
    ];
  }

  by_later : (o : Option Element) → last_to at es ≡ o → option_or o (if stands_after at x then None else Some x) ≡ Some e
      → (last_to at es ≡ Some e → IsLastTo es at e) → IsLastTo (x ∷ es) at e
  by_later None is found more = by_test (stands_after at x) refl is found
  by_later (Some y) is found more = let last = more (is ∙ found) in record {
    there = Contains-append_right (x ∷ []) es e last.there;
    to = last.to;
    rest = λ other has to. elim (first_or_later x es other has) [
      | inl first ↦
          let after : element_cmp x e ≡ Less =
          All-contains (λ y. element_cmp x y ≡ Less) es e (All-from_recursion (λ y. element_cmp x y ≡ Less) es rising.0) last.there in
          subst (λ (y : Element). IsFrom (element_key y) (element_key e)) first (key_from_before (element_key x) (element_key e) after)
      | inr later ↦ last.rest other later to
    ];
  }

-- elements of a list in order with one key are one
pub one_at_key : (es : List Element) (x y : Element) → IsStrictlySortedBy element_cmp es → Contains es x → Contains es y → element_key x ≡ element_key y
    → x ≡ y
unfolding IsStrictlySortedBy
one_at_key [] x y rising (k, inside, is) has same = absurd (omega arith)
one_at_key (e ∷ es) x y rising has_x has_y same = elim (first_or_later e es x has_x) [
  | inl first ↦ elim (first_or_later e es y has_y) [
    | inl also ↦ sym first ∙ also
    | inr later ↦ absurd (apart y later (ap element_key first ∙ same))
  ]
  | inr later ↦ elim (first_or_later e es y has_y) [
    | inl first ↦ absurd (apart x later (ap element_key first ∙ sym same))
    | inr also ↦ one_at_key es x y rising.1 later also same
  ]
] where
  apart : (z : Element) → Contains es z → element_key e ≡ element_key z → ⊥
  apart z has is =
      let after : element_cmp e z ≡ Less =
      All-contains (λ w. element_cmp e w ≡ Less) es z (All-from_recursion (λ w. element_cmp e w ≡ Less) es rising.0) has in
      key_not_before (element_key z) (subst (λ (k : Key). key_cmp k (element_key z) ≡ Less) is after)
