-- Looks for elements whose payload lies in the choice.
use Rattle.std.proofs.Common.{◌≡◌, ℕ, List, Option, Some, None, true, false, Bool, refl, ap, sym, ◌∙◌, subst, inl, inr}
use Rattle.std.specs.Prelude.{if◌then◌else◌, IfSome}
use Rattle.std.specs.List.{Contains}
use Rattle.std.specs.List.Sorted.{IsStrictlySortedBy}
use Rattle.std.proofs.lemmas.List.Elements.{Contains-append_left}
use Rattle.hm_types.specs.Elements.{Key}
use Rattle.hm_key.specs.Elements.{element_at, element_cmp, element_key, first_from, stands_at}
use Rattle.hm_key.specs.Key.{IsBefore, IsFrom, IsKeyAfter, IsWide, key_of}
use Rattle.hm_key.specs.Stores.{IsFound}
use Rattle.hm_key.specs.declared.base.Base.{Base}
use Rattle.hm_key.specs.declared.element.Element.{Element}
use Rattle.hm_key.proofs.KeyLemmas.{key_before_from, key_from_before, key_total}
use Rattle.hm_key.proofs.RiseLemmas.{before_unless}
use Rattle.hm_key.proofs.SearchLemmas.{element_at-first, if_at}
use Rattle.hm_cursor.specs.Shown.{IsAfter, IsToCome}
use Rattle.hm_cursor.proofs.SearchLemmas.{IsFirstFrom, found_none}
use Rattle.hm_reblock.specs.Choice.{AllNoted, IsFront, IsInChoice, IsFirstInChoice, IsStill, StandsStill}

-- the key after that of an element that a search found is after the one from which it searched
pub before_next : (at : Key) (e : Element) (next : Option Base) → IsFrom at (element_key e) → IsKeyAfter (element_key e) next
    → IfSome next (λ b. IsBefore at (key_of b))
before_next at e None onward after = tt
before_next at e (Some next) onward after =
    before_unless at (key_of next) (λ back. onward (key_before_from (element_key e) (key_of next) at after.1.after back))

-- so where the search answered it
pub found_next : (at : Base) (e : Element) (found : Option Element) (next : Option Base) → found ≡ Some e → IfSome found (IsFound (key_of at))
    → IsKeyAfter (element_key e) next → IfSome next (λ b. IsBefore (key_of at) (key_of b))
found_next at e found next is sound after =
    let fact : IfSome (Some e) (IsFound (key_of at)) = subst (λ (o : Option Element). IfSome o (IsFound (key_of at))) is sound in
    before_next (key_of at) e next fact.place after

-- each element of the choice from a key on is still to come
abbrev pub NonePassed : List ℕ → List Element → Key → Option Base → Type 0
NonePassed choice es from next =
    (e : Element) → Contains es e → IsWide (element_key e) → IsInChoice choice e → IsFrom from (element_key e) → IsToCome next (element_key e)

-- a look begins where none was passed
pub begins : (choice : List ℕ) (es : List Element) (from : Base) → NonePassed choice es (key_of from) (Some from)
begins choice es from e has wide chosen onward = onward

-- none is left where a search finds nothing
pub none_found : (choice : List ℕ) (es : List Element) (from : Key) (at : Base) → first_from (key_of at) es ≡ None
    → NonePassed choice es from (Some at) → IsFirstInChoice choice es from None
none_found choice es from at found passed e has wide chosen onward = passed e has wide chosen onward (found_none (key_of at) es found e has)

-- nor at the end of the walk
pub none_left : (choice : List ℕ) (es : List Element) (from : Key) (next : Option Base) → next ≡ None → NonePassed choice es from next
    → IsFirstInChoice choice es from None
none_left choice es from next end passed e has wide chosen onward =
    subst (λ (o : Option Base). IsToCome o (element_key e)) end (passed e has wide chosen onward)

module _ (choice : List ℕ) (es : List Element) (from : Key) (at : Base) (e : Element) (search : IsFirstFrom es (key_of at) e)
    (passed : NonePassed choice es from (Some at)) where
  -- where what a search finds does not lie in the choice, the look goes on after it
  pub passed_after : (next : Option Base) → IsAfter e.base next → (IsInChoice choice e → ⊥) → NonePassed choice es from next
  passed_after next after outside other has wide chosen onward = elim (search.rest other has (passed other has wide chosen onward)) [
    | inl same ↦ absurd (outside (subst (IsInChoice choice) (sym same) chosen))
    | inr before ↦ (after (element_key other) wide).1 before
  ]

-- what is from a key on, that is from another one on, is from that one on
pub from_both : (a b c : Key) → IsFrom a b → IsFrom b c → IsFrom a c
from_both a b c first second back =
    first (before_unless b a (λ up. second (key_before_from c a b back up)))

-- so is the key after an element
pub from_next : (from at e : Key) (next : Option Base) → IsFrom from at → IsFrom at e → IsKeyAfter e next → IfSome next (λ b. IsFrom from (key_of b))
from_next from at e None first second after = tt
from_next from at e (Some next) first second after =
    from_both from e (key_of next) (from_both from at e first second) (key_from_before e (key_of next) after.1.after)

-- where a search finds none, none stands at its key
pub none_still : (choice : List ℕ) (es : List Element) (known : Element) → IsStrictlySortedBy element_cmp es
    → first_from (element_key known) es ≡ None → StandsStill choice es known None
none_still choice es known rising none =
    let missing : element_at (element_key known) es ≡ None = rw (element_at-first (element_key known) es rising, none) refl in
    rw missing tt

-- where it finds one that is not the one that was known, that does not stand there still
pub other_still : (choice : List ℕ) (es : List Element) (known e : Element) → IsStrictlySortedBy element_cmp es
    → first_from (element_key known) es ≡ Some e → (IsStill choice known e → ⊥) → StandsStill choice es known None
other_still choice es known e rising found other =
    let here : element_at (element_key known) es ≡ if_at (element_key known) (Some e) =
    element_at-first (element_key known) es rising ∙ ap (if_at (element_key known)) found in
    rw here (by_test (stands_at (element_key known) e)) where
      by_test : (b : Bool) → IfSome (if b then Some e else None) (λ x. IsStill choice known x → ⊥)
      by_test true = other
      by_test false = tt

-- a walk goes on from a later key to one that is later still
pub before_both : (from at : Key) (next : Option Base) → IsBefore from at → IfSome next (λ b. IsBefore at (key_of b))
    → IfSome next (λ b. IsBefore from (key_of b))
before_both from at None first second = tt
before_both from at (Some b) first second = key_total.trans from at (key_of b) first second

-- what a front of a list has the list has
front_has : (front whole : List Element) (e : Element) → IsFront front whole → Contains front e → Contains whole e
front_has front whole e is has = subst (λ (l : List Element). Contains l e) (sym is.1) (Contains-append_left front is.0 e has)

-- where a search finds nothing, nothing has to be noted
pub all_none : (choice : List ℕ) (es known : List Element) (at : Key) → first_from at es ≡ None → AllNoted choice es at None known
all_none choice es known at found e has wide chosen onward = absurd (onward (found_none at es found e has))

-- where it finds an element that is noted if it is of the choice, the others are to come
pub all_one : (choice : List ℕ) (es known : List Element) (at : Key) (e : Element) (next : Option Base) → IsFirstFrom es at e → IsAfter e.base next
    → (IsInChoice choice e → Contains known e) → AllNoted choice es at next known
all_one choice es known at e next search after noted other has wide chosen onward = elim (search.rest other has onward) [
  | inl same ↦ inl (subst (Contains known) same (noted (subst (IsInChoice choice) (sym same) chosen)))
  | inr before ↦ inr ((after (element_key other) wide).1 before)
]

-- what was noted in two steps was
pub all_both : (choice : List ℕ) (es known more : List Element) (from : Key) (at : Base) (next : Option Base) → IsFront known more
    → AllNoted choice es from (Some at) known → AllNoted choice es (key_of at) next more → AllNoted choice es from next more
all_both choice es known more from at next front first second e has wide chosen onward = elim (first e has wide chosen onward) [
  | inl noted ↦ inl (front_has known more e front noted)
  | inr come ↦ second e has wide chosen come
]
