-- What stands at a place of a list, and what a list becomes there.
use Rattle.std.proofs.Common.{◌≡◌, ℕ, zero, suc, ◌<◌, ◌≤◌, List, [], ◌∷◌, length, get_or, set, true, false, true≢false, Option, Some, None, slice_get, refl, ap}
use Rattle.std.proofs.Common.{sym, ◌∙◌, arith, insert, remove, IsSome, Bor, not, subst}
use Rattle.std.specs.Prelude.{if◌then◌else◌, Bool, IfSome, OnSome, IfOk, Result, Ok, Err, option_map}
use Rattle.std.specs.Option.{option_copied}
use Rattle.std.specs.Slice.{IsItemAt}
use Rattle.std.specs.Bool.{◌==◌}
use Rattle.std.specs.Ordering.{is_lt, is_eq, ordering_index}
use Rattle.std.specs.declared.cmp.Ordering.{Ordering}
use Rattle.std.specs.declared.cmp.Ordering.TheVariants.{Less, Equal, Greater}
use Rattle.std.proofs.lemmas.Bool.{ltb-true, ltb-false}
use Rattle.std.proofs.lemmas.Option.{slice_get_past, slice_get_read}
use Rattle.hm_types.specs.Elements.{Key, key_cmp}
use Rattle.hm_key.specs.Elements.{stands_at, stands_before, element_at, first_from, inserted, removed, changed, element_key}
use Rattle.hm_key.specs.Places.{leading, IsPlace, NoneBefore}
use Rattle.hm_key.specs.declared.element.Element.{Element}
use Rattle.hm_key.proofs.KeyLemmas.{key_itself}

-- the leading elements are some of all
pub leading_most : (at : Key) (es : List Element) → leading at es ≤ length es
leading_most at [] = omega arith
leading_most at (e ∷ es) = by_test (stands_before at e) (leading_most at es) where
  by_test : (b : Bool) → leading at es ≤ length es → (if b then suc (leading at es) else 0) ≤ suc (length es)
  by_test true most = omega arith
  by_test false most = omega arith

-- the first element from a key on comes after the leading ones
pub first_from-leading : (at : Key) (es : List Element) → first_from at es ≡ slice_get es (leading at es)
first_from-leading at [] = refl
first_from-leading at (e ∷ es) = by_test (stands_before at e) (first_from-leading at es) where
  by_test : (b : Bool) → first_from at es ≡ slice_get es (leading at es)
      → (if b then first_from at es else Some e) ≡ slice_get (e ∷ es) (if b then suc (leading at es) else 0)
  by_test true same = same
  by_test false same = refl

-- a new element comes after the leading ones
pub inserted-leading : (new : Element) (es : List Element) → inserted new es ≡ insert es (leading (element_key new) es) new
inserted-leading new [] = refl
inserted-leading new (e ∷ es) = by_test (stands_before (element_key new) e) (inserted-leading new es) where
  by_test : (b : Bool) → inserted new es ≡ insert es (leading (element_key new) es) new
      → (if b then e ∷ inserted new es else new ∷ e ∷ es) ≡ insert (e ∷ es) (if b then suc (leading (element_key new) es) else 0) new
  by_test true same = ap (λ (l : List Element). e ∷ l) same
  by_test false same = refl

-- the element at the key is taken out at its place
pub removed-place : (at : Key) (es : List Element) (place : ℕ) → IsPlace at es place → removed at es ≡ remove es place
removed-place at [] place is = absurd is
removed-place at (e ∷ es) zero is = rw is refl
removed-place at (e ∷ es) (suc place) is = rw is.0 (ap (λ (l : List Element). e ∷ l) (removed-place at es place is.1))

-- the element at the key changes at its place
pub changed-place : (at : Key) (change : Element → Element) (d : Element) (es : List Element) (place : ℕ) → IsPlace at es place
    → changed at change es ≡ set es place (change (get_or es place d))
changed-place at change d [] place is = absurd is
changed-place at change d (e ∷ es) zero is = rw is refl
changed-place at change d (e ∷ es) (suc place) is = rw is.0 (ap (λ (l : List Element). e ∷ l) (changed-place at change d es place is.1))

-- the element at the key, which was read at its place, changes there
pub changed_here : (at : Key) (change : Element → Element) (e : Element) (es : List Element) (place : ℕ) → IsPlace at es place → e ≡ get_or es place e
    → set es place (change e) ≡ changed at change es
changed_here at change e es place is read = ap (λ (x : Element). set es place (change x)) read ∙ sym (changed-place at change e es place is)

-- a place is within the list
pub IsPlace-within : (at : Key) (es : List Element) (place : ℕ) → IsPlace at es place → place < length es
IsPlace-within at [] place is = absurd is
IsPlace-within at (e ∷ es) zero is = omega arith
IsPlace-within at (e ∷ es) (suc place) is = omega (arith, IsPlace-within at es place is.1)

-- what stands at a place stands at the key
pub IsPlace-stands : (at : Key) (d : Element) (es : List Element) (place : ℕ) → IsPlace at es place → stands_at at (get_or es place d) ≡ true
IsPlace-stands at d [] place is = absurd is
IsPlace-stands at d (e ∷ es) zero is = is
IsPlace-stands at d (e ∷ es) (suc place) is = IsPlace-stands at d es place is.1

-- one more element does not stand at the key
pub NoneBefore-more : (at : Key) (d : Element) (es : List Element) (place : ℕ) → NoneBefore at es place → place < length es
    → stands_at at (get_or es place d) ≡ false → NoneBefore at es (suc place)
NoneBefore-more at d [] place none within not = absurd (omega arith)
NoneBefore-more at d (e ∷ es) zero none within not = (not, tt)
NoneBefore-more at d (e ∷ es) (suc place) none within not = (none.0, NoneBefore-more at d es place none.1 (omega arith) not)

-- an element at the key with none before it
pub IsPlace-found : (at : Key) (d : Element) (es : List Element) (place : ℕ) → NoneBefore at es place → place < length es
    → stands_at at (get_or es place d) ≡ true → IsPlace at es place
IsPlace-found at d [] place none within is = absurd (omega arith)
IsPlace-found at d (e ∷ es) zero none within is = is
IsPlace-found at d (e ∷ es) (suc place) none within is = (none.0, IsPlace-found at d es place none.1 (omega arith) is)

-- where none of the elements before a place stands at the key, the one that does comes later
pub NoneBefore-left : (at : Key) (es : List Element) (place : ℕ) → NoneBefore at es place → IsSome (element_at at es) → place < length es
NoneBefore-left at [] place none there = absurd (true≢false (sym there))
NoneBefore-left at (e ∷ es) zero none there = omega arith
NoneBefore-left at (e ∷ es) (suc place) none there = omega (arith, NoneBefore-left at es place none.1 (rw none.0 at there))

-- a new element goes to a place that was found
pub inserted_here : (new : Element) (es : List Element) (place : ℕ) → place ≡ leading (element_key new) es → insert es place new ≡ inserted new es
inserted_here new es place is = rw is (sym (inserted-leading new es))

-- what `get` lends, where a list is read at a place
pub got : {X : Type 0} (lent : Option (Bor X)) (xs : List X) (i : ℕ) → IsItemAt xs i lent → option_copied lent ≡ slice_get xs i
got None xs i is = sym (slice_get_past xs i (ltb-false i (length xs) (sym is.0)))
got (Some x) xs i is = sym (slice_get_read xs (length xs) i x.now refl (ltb-true i (length xs) (sym is.0)) is.1)

-- whether an element stands at a key, as the code tests it
pub stands_read : (at : Key) (e : Element) (es : List Element) (place : ℕ) (o : Ordering) (b : Bool) → e ≡ get_or es place e → o ≡ key_cmp (element_key e) at
    → is_eq o ≡ b → stands_at at (get_or es place e) ≡ b
stands_read at e es place o b read order is = subst (λ (x : Element). stands_at at x ≡ b) read (sym (ap is_eq order) ∙ is)

-- the test `!= Ordering::Equal`
pub not_equal : (o : Ordering) (test b : Bool) → test ≡ not (ordering_index o == 1) → test ≡ b → is_eq o ≡ not b
not_equal Less test b is same = ap not (sym is ∙ same)
not_equal Equal test b is same = ap not (sym is ∙ same)
not_equal Greater test b is same = ap not (sym is ∙ same)

-- a search from the key of a new element finds it
pub first_from-inserted : (new : Element) (es : List Element) → first_from (element_key new) (inserted new es) ≡ Some new
first_from-inserted new [] = rw (ap is_lt (key_itself (element_key new))) refl
first_from-inserted new (e ∷ es) = by_test (stands_before (element_key new) e) refl (first_from-inserted new es) where
  by_test : (b : Bool) → stands_before (element_key new) e ≡ b → first_from (element_key new) (inserted new es) ≡ Some new
      → first_from (element_key new) (if b then e ∷ inserted new es else new ∷ e ∷ es) ≡ Some new
  by_test true is more = rw is more
  by_test false is more = rw (ap is_lt (key_itself (element_key new))) refl

-- the same where a list is told
pub found_inserted : {E : Type 0} (new : Element) (old now : Option (List Element)) (result : Result (Option Element) E) → now ≡ option_map (inserted new) old
    → IfSome now (λ es. IfOk result (λ found. found ≡ first_from (element_key new) es)) → IfOk result (λ found. OnSome old (found ≡ Some new))
found_inserted new old now (Err fault) same search = tt
found_inserted new None now (Ok found) same search = tt
found_inserted new (Some es) now (Ok found) same search =
    let told : IfSome (Some (inserted new es)) (λ list. found ≡ first_from (element_key new) list) =
    subst (λ (o : Option (List Element)). IfSome o (λ list. found ≡ first_from (element_key new) list)) same search in
    told ∙ first_from-inserted new es
