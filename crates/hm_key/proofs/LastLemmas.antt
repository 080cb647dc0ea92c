-- The last element up to a key.
use Rattle.std.proofs.Common.{◌≡◌, Bool, true, false, true≢false, not, ℕ, ◌+◌, ◌<◌, List, [], ◌∷◌, length, drop, get_or}
use Rattle.std.proofs.Common.{Option, Some, None, refl, sym, ap, ◌∙◌, arith, add-one}
use Rattle.std.specs.Prelude.{if◌then◌else◌, All, IfSome, ◌==◌}
use Rattle.std.specs.List.{AllByRecursion}
use Rattle.std.specs.Option.{option_or}
use Rattle.std.specs.Ordering.{is_lt, is_gt, ordering_index, ordering_reverse}
use Rattle.std.specs.declared.cmp.Ordering.{Ordering}
use Rattle.std.specs.declared.cmp.Ordering.TheVariants.{Less, Equal, Greater}
use Rattle.std.proofs.Math.Seq.{drop-cons}
use Rattle.std.proofs.lemmas.List.Elements.{recursion_from_All}
use Rattle.hm_types.specs.Elements.{Key, key_cmp}
use Rattle.hm_key.specs.Key.{IsFrom}
use Rattle.hm_key.specs.Element.{IsElement}
use Rattle.hm_key.specs.Elements.{element_key, stands_after, last_to}
use Rattle.hm_key.specs.Stores.{IsFoundTo}
use Rattle.hm_key.specs.declared.element.Element.{Element}
use Rattle.hm_key.proofs.KeyLemmas.{key_total}

pub or_again : {A : Type 0} (a b c : Option A) → option_or (option_or a b) c ≡ option_or a (option_or b c)
or_again None b c = refl
or_again (Some x) b c = refl

-- whether an element stands after a key, by how it stands to the key
after_is : (at : Key) (e : Element) (o : Ordering) → o ≡ key_cmp (element_key e) at → stands_after at e ≡ is_gt o
after_is at e o is = ap is_lt (key_total.antisymm at (element_key e) ∙ ap ordering_reverse (sym is)) ∙ turned o where
  turned : (o : Ordering) → is_lt (ordering_reverse o) ≡ is_gt o
  turned Less = refl
  turned Equal = refl
  turned Greater = refl

-- the test `!= Ordering::Greater`
not_greater : (o : Ordering) (test : Bool) → test ≡ not (ordering_index o == 2) → test ≡ not (is_gt o)
not_greater Less test is = is
not_greater Equal test is = is
not_greater Greater test is = is

-- what an element makes of the last one before it
pub last_after : (at : Key) (e : Element) (o : Ordering) (test : Bool) (last now : Option Element)
    → o ≡ key_cmp (element_key e) at → test ≡ not (ordering_index o == 2)
    → now ≡ (if test then Some e else last) → now ≡ option_or (if stands_after at e then None else Some e) last
last_after at e o test last now order tested is =
    is ∙ rw (after_is at e o order, not_greater o test tested) (by_test (is_gt o)) where
      by_test : (b : Bool) → (if not b then Some e else last) ≡ option_or (if b then None else Some e) last
      by_test true = refl
      by_test false = refl

-- one element more is looked at
pub last_step : (at : Key) (es : List Element) (i : ℕ) (e : Element) (last now : Option Element)
    → i < length es → e ≡ get_or es i e → last_to at es ≡ option_or (last_to at (drop i es)) last
    → now ≡ option_or (if stands_after at e then None else Some e) last
    → last_to at es ≡ option_or (last_to at (drop (i + 1) es)) now
last_step at es i e last now within read is step =
    let here : drop i es ≡ e ∷ drop (i + 1) es = drop-cons es i e within ∙ rw (← read, add-one) refl in
    is ∙ ap (λ (l : List Element). option_or (last_to at l) last) here
    ∙ or_again (last_to at (drop (i + 1) es)) (if stands_after at e then None else Some e) last
    ∙ ap (option_or (last_to at (drop (i + 1) es))) (sym step)

-- what a search up to a key finds
pub found_to : (at : Key) (es : List Element) (found : Option Element) → All IsElement es → found ≡ last_to at es → IfSome found (IsFoundTo at)
found_to at es found each same = rw same (search_to es (recursion_from_All IsElement es each)) where
  search_to : (es : List Element) → AllByRecursion IsElement es → IfSome (last_to at es) (IsFoundTo at)
  search_to [] each = tt
  search_to (e ∷ es) each = later (last_to at es) (search_to es each.1) where
    here : (b : Bool) → stands_after at e ≡ b → IfSome (if b then None else Some e) (IsFoundTo at)
    here true is = tt
    here false is = record { element = each.0; place = λ before. true≢false (sym (ap is_lt before) ∙ is) }

    later : (o : Option Element) → IfSome o (IsFoundTo at) → IfSome (option_or o (if stands_after at e then None else Some e)) (IsFoundTo at)
    later None none = here (stands_after at e) refl
    later (Some x) found = found
