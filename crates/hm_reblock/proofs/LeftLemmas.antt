-- What is left in the choice.
use Rattle.std.proofs.Common.{◌≡◌, ℕ, ◌<◌, List, [], ◌∷◌, length, get_or, Option, Some, None, Bool, true, false, refl, sym, subst, arith}
use Rattle.std.specs.Prelude.{if◌then◌else◌, IfSome, IsSomeAnd, slice_get}
use Rattle.std.proofs.lemmas.Option.{slice_get_read}
use Rattle.std.specs.List.{Contains}
use Rattle.std.proofs.lemmas.List.Elements.{Contains-append_right}
use Rattle.hm_types.specs.Elements.{Key}
use Rattle.hm_key.specs.Elements.{element_at, element_key, stands_at}
use Rattle.hm_key.specs.Key.{IsFrom, least_key}
use Rattle.hm_key.specs.declared.element.Element.{Element}
use Rattle.hm_key.proofs.KeyLemmas.{key_from_fields}
use Rattle.hm_reblock.specs.Choice.{IsFirstInChoice, NoneChosen, StandsStill}

-- the element at a key is one of the list
pub contains_at : (key : Key) (e : Element) (es : List Element) → element_at key es ≡ Some e → Contains es e
contains_at key e [] found = absurd (cc)
contains_at key e (y ∷ es) found = by_test (stands_at key y) found (contains_at key e es) where
  by_test : (b : Bool) → (if b then Some y else element_at key es) ≡ Some e → (element_at key es ≡ Some e → Contains es e) → Contains (y ∷ es) e
  by_test true found more = let same : y ≡ e = cc in (0, omega arith, same)
  by_test false found more = Contains-append_right (y ∷ []) es e (more found)

-- the same of what stands in a list that stayed
pub stands_left : (now was : Option (List Element)) (e : Element) (found : Option Element) → now ≡ was → found ≡ Some e
    → IfSome now (λ es. IfSome found (λ e. element_at (element_key e) es ≡ Some e)) → IfSome was (λ es. Contains es e)
stands_left None was e found same is stands = subst (λ (o : Option (List Element)). IfSome o (λ es. Contains es e)) same tt
stands_left (Some es) was e found same is stands =
    subst (λ (o : Option (List Element)). IfSome o (λ es. Contains es e)) same
    (contains_at (element_key e) e es (subst (λ (f : Option Element). IfSome f (λ e. element_at (element_key e) es ≡ Some e)) is stands))

-- and of what a look found
pub look_left : (now was : Option (List Element)) (choice : List ℕ) (from : Key) (e : Element) (found : Option Element) → now ≡ was → found ≡ Some e
    → IfSome now (λ es. IsFirstInChoice choice es from found) → IfSome was (λ es. Contains es e)
look_left None was choice from e found same is look = subst (λ (o : Option (List Element)). IfSome o (λ es. Contains es e)) same tt
look_left (Some es) was choice from e found same is look =
    let here : IsFirstInChoice choice es from (Some e) = subst (λ (f : Option Element). IsFirstInChoice choice es from f) is look in
    subst (λ (o : Option (List Element)). IfSome o (λ es. Contains es e)) same (contains_at (element_key e) e es here)

-- every key is from the least one on
from_least : (key : Key) → IsFrom least_key key
from_least key = key_from_fields least_key key (omega arith) (omega arith) (omega arith) (omega arith) (omega arith)

-- none is left where a look from the least key on found none
pub none_left_at_all : (now was : Option (List Element)) (choice : List ℕ) (from : Key) (found : Option Element) → now ≡ was → found ≡ None
    → from ≡ least_key → IfSome now (λ es. IsFirstInChoice choice es from found) → IfSome was (NoneChosen choice)
none_left_at_all None was choice from found same is least look = subst (λ (o : Option (List Element)). IfSome o (NoneChosen choice)) same tt
none_left_at_all (Some es) was choice from found same is least look =
    let here : IsFirstInChoice choice es from None = subst (λ (f : Option Element). IsFirstInChoice choice es from f) is look in
    subst (λ (o : Option (List Element)). IfSome o (NoneChosen choice)) same
    (λ e has wide chosen. here e has wide chosen (subst (λ (k : Key). IsFrom k (element_key e)) (sym least) (from_least (element_key e))))

-- what stands at a place of what is known has its payload
pub known_at : (known : List Element) (k e : Element) (at : ℕ) → at < length known → k ≡ get_or known at k → e.payload ≡ k.payload
    → IsSomeAnd (slice_get known at) (λ x. x.payload ≡ e.payload)
known_at known k e at inside here same = rw (slice_get_read known (length known) at k refl inside here) (sym same)

-- of what stands there still
pub still_left : (now was : Option (List Element)) (choice : List ℕ) (known e : Element) (found : Option Element) → now ≡ was → found ≡ Some e
    → IfSome now (λ es. StandsStill choice es known found) → IfSome was (λ es. Contains es e)
still_left None was choice known e found same is stands = subst (λ (o : Option (List Element)). IfSome o (λ es. Contains es e)) same tt
still_left (Some es) was choice known e found same is stands =
    let here : StandsStill choice es known (Some e) = subst (λ (f : Option Element). StandsStill choice es known f) is stands in
    subst (λ (o : Option (List Element)). IfSome o (λ es. Contains es e)) same (contains_at (element_key e) e es here)
