-- Maps in which one page is put, comes new or goes.
use Rattle.std.proofs.Common.{◌≡◌, ◌≢◌, Bool, true, false, true≢false, ◌||◌, ℕ, ◌⊎◌, inl, inr, List, refl, sym, ap, subst, ◌∙◌, nat_eq}
use Rattle.std.proofs.Common.{eqb-true, eq-eqb, Some, None}
use Rattle.std.specs.Prelude.{Option, IsSome, is_some}
use Rattle.hm_fields.specs.Pages.{PageMap, HasPut}
use Rattle.hm_search.proofs.ReachLemmas.{fails}
use Rattle.hm_btree.specs.Space.{HasNew, HasLost, IsSpot}
use Rattle.hm_btree.specs.Below.{Replaces}
use Rattle.hm_btree.proofs.UnderLemmas.{or_false, or_false_left, or_false_right}

pub same_test : (x : ℕ) → nat_eq x x ≡ true
same_test x = eq-eqb x x refl

pub other_test : (x y : ℕ) → x ≢ y → nat_eq x y ≡ false
other_test x y other = fails (nat_eq x y) (λ is. other (eqb-true x y is))

pub test_other : (x y : ℕ) → nat_eq x y ≡ false → x ≢ y
test_other x y is same = true≢false (sym (eq-eqb x y same) ∙ is)

module _ (at : ℕ) (bytes : List ℕ) (old new : PageMap) (put : HasPut at bytes old new) where
  pub put_at : new at ≡ Some bytes
  put_at = put at ∙ rw (same_test at) refl

  pub put_other : (x : ℕ) → x ≢ at → new x ≡ old x
  put_other x other = put x ∙ rw (other_test x at other) refl

module _ (at : ℕ) (old new : PageMap) (lost : HasLost at old new) where
  pub lost_at : new at ≡ None
  lost_at = lost at ∙ rw (same_test at) refl

  pub lost_other : (x : ℕ) → x ≢ at → new x ≡ old x
  lost_other x other = lost x ∙ rw (other_test x at other) refl

pub not_there : (o : Option (List ℕ)) → o ≡ None → IsSome o → ⊥
not_there o none some = true≢false (sym some ∙ ap (λ (p : Option (List ℕ)). is_some p) none)

-- one of the call's pages is written
pub replaces_put : (at : ℕ) (bytes : List ℕ) (olds news : ℕ → Bool) (old mid new : PageMap) → HasPut at bytes mid new
    → IsSome (old at) → Replaces olds news old mid → Replaces (λ x. nat_eq at x || olds x) (λ x. nat_eq at x || news x) old new
replaces_put at bytes olds news old mid new put there replaces = record {
  kept = λ x is some. put_other at bytes mid new put x (λ same. test_other at x (or_false_left (nat_eq at x) (olds x) is)
      (sym same)) ∙ replaces.kept x (or_false_right (nat_eq at x) (olds x) is) some;
  rest = λ x some is.
      let other : x ≢ at = λ same. test_other at x (or_false_left (nat_eq at x) (news x) is) (sym same) in
      let more = replaces.rest x (subst (λ (o : Option (List ℕ)). IsSome o) (put_other at bytes mid new put x other) some)
      (or_false_right (nat_eq at x) (news x) is) in
      (or_false (nat_eq at x) (olds x) (or_false_left (nat_eq at x) (news x) is) more.0, more.1);
  made = λ x is was. replaces.made x (later (nat_eq at x) (news x) is (or_false_left (nat_eq at x) (olds x) was)) (or_false_right (nat_eq at x) (olds x) was);
  spots = λ x some. by_side x some (nat_eq at x) refl;
} where
  later : (a b : Bool) → (a || b) ≡ true → a ≡ false → b ≡ true
  later a b is not = rw not at is

  by_side : (x : ℕ) → IsSome (new x) → (b : Bool) → nat_eq at x ≡ b → IsSome (old x) ⊎ IsSpot x
  by_side x some true is = inl (subst (λ (y : ℕ). IsSome (old y)) (eqb-true at x is) there)
  by_side x some false is = replaces.spots x (subst (λ (o : Option (List ℕ)). IsSome o) (put_other at bytes mid new put x
      (λ same. test_other at x is (sym same))) some)

-- a page comes
pub replaces_new : (at : ℕ) (bytes : List ℕ) (olds news : ℕ → Bool) (old mid new : PageMap) → HasNew at bytes mid new → IsSpot at
    → Replaces olds news old mid → Replaces olds (λ x. nat_eq at x || news x) old new
replaces_new at bytes olds news old mid new come spot replaces = record {
  kept = λ x is some.
      let other : x ≢ at = λ same. not_there (mid at) come.free (subst (λ (y : ℕ). IsSome (mid y)) same
      (subst (λ (o : Option (List ℕ)). IsSome o) (sym (replaces.kept x is some)) some)) in
      put_other at bytes mid new come.put x other ∙ replaces.kept x is some;
  rest = λ x some is.
      let other : x ≢ at = λ same. test_other at x (or_false_left (nat_eq at x) (news x) is) (sym same) in
      replaces.rest x (subst (λ (o : Option (List ℕ)). IsSome o) (put_other at bytes mid new come.put x other) some)
      (or_false_right (nat_eq at x) (news x) is);
  made = λ x is was. by_side x was is (nat_eq at x) refl;
  spots = λ x some. by_spot x some (nat_eq at x) refl;
} where
  none_before : (o : Option (List ℕ)) → old at ≡ o → olds at ≡ false → old at ≡ None
  none_before None is was = is
  none_before (Some p) is was =
      let some : IsSome (old at) = rw is refl in
      absurd (not_there (mid at) come.free (subst (λ (o : Option (List ℕ)). IsSome o) (sym (replaces.kept at was some)) some))

  by_side : (x : ℕ) → olds x ≡ false → (nat_eq at x || news x) ≡ true → (b : Bool) → nat_eq at x ≡ b → old x ≡ None
  by_side x was is true here = let same = eqb-true at x here in subst (λ (y : ℕ). old y ≡ None) same
      (none_before (old at) refl (subst (λ (y : ℕ). olds y ≡ false) (sym same) was))
  by_side x was is false here = replaces.made x (rw here at is) was

  by_spot : (x : ℕ) → IsSome (new x) → (b : Bool) → nat_eq at x ≡ b → IsSome (old x) ⊎ IsSpot x
  by_spot x some true is = inr (subst (λ (y : ℕ). IsSpot y) (eqb-true at x is) spot)
  by_spot x some false is = replaces.spots x (subst (λ (o : Option (List ℕ)). IsSome o) (put_other at bytes mid new come.put x
      (λ same. test_other at x is (sym same))) some)

-- a page goes
pub replaces_lost : (at : ℕ) (olds news : ℕ → Bool) (old mid new : PageMap) → HasLost at mid new → Replaces olds news old mid
    → Replaces (λ x. nat_eq at x || olds x) news old new
replaces_lost at olds news old mid new lost replaces = record {
  kept = λ x is some. lost_other at mid new lost x (λ same. test_other at x (or_false_left (nat_eq at x) (olds x) is) (sym same))
      ∙ replaces.kept x (or_false_right (nat_eq at x) (olds x) is) some;
  rest = λ x some is.
      let other : x ≢ at = λ same. not_there (new at) (lost_at at mid new lost) (subst (λ (y : ℕ). IsSome (new y)) same some) in
      let more = replaces.rest x (subst (λ (o : Option (List ℕ)). IsSome o) (lost_other at mid new lost x other) some) is in
      (or_false (nat_eq at x) (olds x) (other_test at x (λ same. other (sym same))) more.0, more.1);
  made = λ x is was. replaces.made x is (or_false_right (nat_eq at x) (olds x) was);
  spots = λ x some.
      let other : x ≢ at = λ same. not_there (new at) (lost_at at mid new lost) (subst (λ (y : ℕ). IsSome (new y)) same some) in
      replaces.spots x (subst (λ (o : Option (List ℕ)). IsSome o) (lost_other at mid new lost x other) some);
}

-- nothing changed
pub replaces_none : (olds : ℕ → Bool) (old : PageMap) → ((x : ℕ) → olds x ≡ true → IsSome (old x)) → Replaces olds olds old old
replaces_none olds old there = record {
  kept = λ x is some. refl;
  rest = λ x some is. (is, some);
  made = λ x is was. absurd (true≢false (sym is ∙ was));
  spots = λ x some. inl some;
}
