-- What a plain job needs and leaves, over what a store may tell.
use Rattle.std.proofs.Common.{◌≡◌, ap, ℕ, ◌<◌, ◌≤◌, List, [], ◌∷◌, true, false, true≢false, Bool, Option, Some, None, refl, sym, ◌∙◌, subst, arith, inl, inr}
use Rattle.std.specs.Prelude.{if◌then◌else◌, ◌⊎◌, IfSome, IsSomeAnd, OnSome, OnOk, Result, Ok, Err, is_some, option_map}
use Rattle.std.specs.List.{AllByRecursion}
use Rattle.std.proofs.lemmas.Bool.{eq-eqb}
use Rattle.std.proofs.lemmas.List.Elements.{recursion_from_All}
use Rattle.hm_types.specs.Intervals.{Keeps}
use Rattle.hm_types.specs.Told.{BothTell}
use Rattle.hm_types.specs.Elements.{Key, Sees, IsDead}
use Rattle.hm_key.specs.Element.{IsElement, pfs_of}
use Rattle.hm_key.specs.Elements.{element_key, stands_at, element_at, first_from, removed, IsContent}
use Rattle.hm_types.specs.Space.{rounded}
use Rattle.hm_key.specs.Extents.{Extent, AreExtents, extent_at, given_back_at}
use Rattle.hm_key.specs.Balance.{IsHeld, IsBalanced, Balanced, content_of, full_of, full_elements, MayGo, Works}
use Rattle.hm_key.specs.Marks.{MarksJoin, NoneFall}
use Rattle.hm_key.specs.Stores.{ElementsChange, ExtentsChange, IsFound}
use Rattle.hm_key.specs.Job.{ComesFurther}
use Rattle.hm_key.specs.Key.{IsFrom, IsKeyAfter, key_of}
use Rattle.hm_key.specs.Sweep.{Clears, keeps_one, place_from, IsOver, NoneFrom}
use Rattle.hm_key.specs.declared.base.Base.{Base}
use Rattle.hm_key.specs.declared.element.Element.{Element}
use Rattle.hm_key.proofs.KeyLemmas.{key_before_from}
use Rattle.hm_key.proofs.RiseLemmas.{before_unless}
use Rattle.hm_key.proofs.RaiseLemmas.{join_never_falls}
use Rattle.hm_key.proofs.SearchLemmas.{first_from-at}
use Rattle.hm_key.proofs.BalanceLemmas.{balanced_removed, full_removed, LosesDead-refl, LosesDead-removed}

-- what holds of each element holds of the one at a key
stands_each : (P : Element → Type 0) (key : Key) (e : Element) (es : List Element) → AllByRecursion P es → element_at key es ≡ Some e → P e
stands_each P key e [] each found = absurd (cc)
stands_each P key e (y ∷ es) each found = by_test (stands_at key y) found (stands_each P key e es each.1) where
  by_test : (b : Bool) → (if b then Some y else element_at key es) ≡ Some e → (element_at key es ≡ Some e → P e) → P e
  by_test true found more = let same : y ≡ e = cc in subst P same each.0
  by_test false found more = more found

-- what a search found stands at its key still
pub found_there : (at : Key) (e : Element) (found : Option Element) (old new : Option (List Element)) → new ≡ old → IfSome old IsContent
    → IfSome old (λ es. found ≡ first_from at es) → found ≡ Some e → IfSome new (λ es. element_at (element_key e) es ≡ Some e)
found_there at e found None new same content search is = rw same tt
found_there at e found (Some es) new same content search is = rw same (first_from-at at e es content.rising (sym search ∙ is))

-- the extent of an element of a balanced store is live
pub held_live : (e : Element) (es : Option (List Element)) (xs new : Option (List Extent)) → is_some xs ≡ is_some es → new ≡ xs → Balanced es xs
    → IfSome es (λ list. element_at (element_key e) list ≡ Some e) → IfSome new (λ list. IsSomeAnd (extent_at e.payload list) (λ x. x.len ≡ rounded e.len))
held_live e es None new together same balanced there = rw same tt
held_live e None (Some list) new together same balanced there = absurd (true≢false together)
held_live e (Some es) (Some list) new together same balanced there =
    rw same (stands_each (IsHeld list) (element_key e) e es (recursion_from_All (IsHeld list) es balanced.held) there)

-- an element that is over is dead for the one id that is kept
pub over_dead : (pfs id : ℕ) (e : Element) (xs : List Extent) → IsOver pfs id e.base → IsElement e → MayGo (keeps_one pfs id) (full_of xs e)
over_dead pfs id e xs over is = rw (eq-eqb (pfs_of e.base.localization) pfs over.here) dead where
  made_before : (e.base.delete ≡ 0) ⊎ (e.base.create < e.base.delete) → e.base.create ≤ id
  made_before (inl none) = absurd (over.closed none)
  made_before (inr later) = omega (arith, over.before)

  not_seen : (t : ℕ) → Keeps ((id, id) ∷ []) t → Sees e.base.create e.base.delete t → ⊥
  not_seen t (inl kept) (made, inl none) = over.closed none
  not_seen t (inl kept) (made, inr later) = absurd (omega (arith, over.before, kept.1))
  not_seen t (inr none) sees = none

  dead : IsDead ((id, id) ∷ []) e.base.create e.base.delete
  dead = record { unseen = not_seen; reached = (id, inl (omega arith, omega arith), made_before is.closed) }

-- a unit that changes nothing
pub works_same : (kept : ℕ → Option (List (ℕ × ℕ))) (es new_es : Option (List Element)) (xs new_xs : Option (List Extent)) → new_es ≡ es → new_xs ≡ xs
    → IfSome (content_of es xs) (λ old. IsBalanced old.0 old.1 → IsSomeAnd (content_of new_es new_xs) (Works kept old))
works_same kept None new_es xs new_xs same others = tt
works_same kept (Some es) new_es None new_xs same others = tt
works_same kept (Some es) new_es (Some xs) new_xs same others =
    λ balanced. rw (same, others) (record { balanced = balanced; elements = LosesDead-refl kept (full_elements es xs) })

-- a unit in which an element goes with its reference, or nothing changes
pub works_cleared : (kept : ℕ → Option (List (ℕ × ℕ))) (over : Bool) (e : Element) (es new_es : Option (List Element)) (xs new_xs : Option (List Extent))
    → new_es ≡ option_map (λ list. if over then removed (element_key e) list else list) es
    → new_xs ≡ option_map (λ list. if over then given_back_at e.payload list else list) xs → IfSome es (λ list. element_at (element_key e) list ≡ Some e)
    → IfSome xs AreExtents → (over ≡ true → (list : List Extent) → MayGo kept (full_of list e))
    → IfSome (content_of es xs) (λ old. IsBalanced old.0 old.1 → IsSomeAnd (content_of new_es new_xs) (Works kept old))
works_cleared kept over e None new_es xs new_xs same others there live dead = tt
works_cleared kept over e (Some es) new_es None new_xs same others there live dead = tt
works_cleared kept false e (Some es) new_es (Some xs) new_xs same others there live dead =
    λ balanced. rw (same, others) (record { balanced = balanced; elements = LosesDead-refl kept (full_elements es xs) })
works_cleared kept true e (Some es) new_es (Some xs) new_xs same others there live dead = λ balanced. rw (same, others) (record {
  balanced = balanced_removed (element_key e) e es xs there live balanced;
  elements = rw (full_removed (element_key e) e es xs there live balanced) (LosesDead-removed kept (element_key e) e es xs there (dead refl xs));
})

-- what a unit did of a balanced store leaves it balanced
pub works_balanced : (kept : ℕ → Option (List (ℕ × ℕ))) (es new_es : Option (List Element)) (xs new_xs : Option (List Extent)) → is_some new_es ≡ is_some es
    → is_some new_xs ≡ is_some xs → IfSome (content_of es xs) (λ old. IsBalanced old.0 old.1 → IsSomeAnd (content_of new_es new_xs) (Works kept old))
    → Balanced es xs → Balanced new_es new_xs
works_balanced kept None None xs new_xs told others works balanced = tt
works_balanced kept None (Some fs) xs new_xs told others works balanced = absurd (true≢false told)
works_balanced kept (Some es) None xs new_xs told others works balanced = tt
works_balanced kept (Some es) (Some fs) xs None told others works balanced = tt
works_balanced kept (Some es) (Some fs) None (Some ys) told others works balanced = absurd (true≢false others)
works_balanced kept (Some es) (Some fs) (Some xs) (Some ys) told others works balanced = (works balanced).balanced

-- what a search found may stand in a leaf
pub found_element : (at : Key) (e : Element) (found : Option Element) → IfSome found (IsFound at) → found ≡ Some e → IsElement e
found_element at e found sound is = let fact : IfSome (Some e) (IsFound at) = subst (λ (o : Option Element). IfSome o (IsFound at)) is sound in fact.element

-- marks of which none falls, over two calls of which the first leaves the elements and the marks
pub marks_over : (es mid : Option (List Element)) (old new last : Key → ℕ) → mid ≡ es → new ≡ old → OnSome mid (NoneFall new last)
    → OnSome es (NoneFall old last)
marks_over None mid old new last same marks fall = tt
marks_over (Some es) mid old new last same marks fall = rw (same, marks) at fall

-- marks that stay
pub marks_stay : (es : Option (List Element)) (old new : Key → ℕ) → new ≡ old → OnSome es (NoneFall old new)
marks_stay None old new same = tt
marks_stay (Some es) old new same = λ key. omega (arith, ap (λ (mark : Key → ℕ). mark key) same)

-- an extent list that changed as a reference went
given_back : (at : ℕ) (old new : Option (List Extent)) → BothTell old new (λ xs ys. ys ≡ given_back_at at xs) → new ≡ option_map (given_back_at at) old
given_back at None None changed = refl
given_back at None (Some ys) changed = absurd changed
given_back at (Some xs) None changed = absurd changed
given_back at (Some xs) (Some ys) changed = ap Some changed

-- marks of which none falls where keys come together
joined_marks : (at : Key) (es : Option (List Element)) (old new : Key → ℕ) → IfSome es (λ _. MarksJoin at old new) → OnSome es (NoneFall old new)
joined_marks at None old new marks = tt
joined_marks at (Some es) old new marks = join_never_falls at old new marks

-- an element was removed, and its reference given back
pub cleared : {S A E : Type 0} (elements_of : S → Option (List Element)) (mark_of : S → Key → ℕ) (extents_of : S → Option (List Extent)) (over : Bool)
    (e : Element) (old mid new : S) (result : Result A E) → over ≡ true
    → ElementsChange elements_of mark_of extents_of (removed (element_key e)) (MarksJoin (element_key e)) old mid
    → OnOk result (ExtentsChange elements_of mark_of extents_of (λ xs ys. ys ≡ given_back_at e.payload xs) mid new)
    → OnOk result (Clears elements_of mark_of extents_of over e old new)
cleared elements_of mark_of extents_of over e old mid new (Err error) is first second = tt
cleared elements_of mark_of extents_of over e old mid new (Ok value) is first second = rw is (record {
  elements = second.elements ∙ first.elements;
  extents = given_back e.payload (extents_of mid) (extents_of new) second.extents ∙ ap (option_map (given_back_at e.payload)) first.extents;
  marks =
      subst (λ (mark : Key → ℕ). OnSome (elements_of old) (NoneFall (mark_of old) mark)) (sym second.mark)
      (joined_marks (element_key e) (elements_of old) (mark_of old) (mark_of mid) first.mark);
})

-- the walk goes on after what a search found
pub comes_further : (at : Base) (e : Element) (next : Option Base) → IsFrom (key_of at) (element_key e) → IsKeyAfter (element_key e) next
    → ComesFurther (place_from (Some at)) (place_from next)
comes_further at e None onward after = inl (omega arith)
comes_further at e (Some next) onward after =
    inr (refl, before_unless (key_of at) (key_of next) (λ back. onward (key_before_from (element_key e) (key_of next) (key_of at) after.1.after back)))

-- so where the job went on from a key
pub goes_further : (from : Option Base) (at : Base) (e : Element) (found : Option Element) (next : Option Base) → from ≡ Some at → found ≡ Some e
    → IfSome found (IsFound (key_of at)) → IsKeyAfter (element_key e) next
    → ComesFurther (place_from from) (place_from next)
goes_further from at e found next start is sound after =
    let fact : IfSome (Some e) (IsFound (key_of at)) = subst (λ (o : Option Element). IfSome o (IsFound (key_of at))) is sound in
    subst (λ (o : Option Base). ComesFurther (place_from o) (place_from next)) (sym start) (comes_further at e next fact.place after)
