-- Marks that stay at least the ids of the elements, and what a search finds.
use Rattle.std.proofs.Common.{◌≡◌, ℕ, ◌≤◌, List, [], ◌∷◌, true, Option, Some, refl, ap, sym, ◌∙◌, subst, arith, true≢false, get_or}
use Rattle.std.specs.Prelude.{if◌then◌else◌, All, IfSome, Result, Ok, Err, OnOk, OnErr}
use Rattle.std.specs.List.{AllByRecursion}
use Rattle.std.specs.Ordering.{is_lt}
use Rattle.std.specs.declared.cmp.Ordering.{Ordering}
use Rattle.std.specs.declared.cmp.Ordering.TheVariants.{Less, Equal, Greater}
use Rattle.std.proofs.lemmas.List.Elements.{All-from_recursion, recursion_from_All}
use Rattle.hm_types.specs.Elements.{Key, key_cmp}
use Rattle.hm_key.specs.Key.{IsBefore, IsFrom}
use Rattle.hm_key.specs.Element.{IsElement}
use Rattle.hm_key.specs.Elements.{element_key, stands_at, first_from, inserted, removed, with_delete, with_payload, closed_at, moved_to, last_id}
use Rattle.hm_key.specs.Marks.{Marks, IsMarked}
use Rattle.hm_key.specs.Stores.{IsFound}
use Rattle.hm_key.specs.declared.element.Element.{Element}
use Rattle.hm_key.proofs.KeyLemmas.{key_same, key_before}
use Rattle.hm_key.proofs.RaiseLemmas.{marks_never_fall}
use Rattle.hm_key.proofs.ElementLemmas.{stands_same, each_inserted, each_removed, each_changed}

-- marks that rose are still at least the ids
still_marked : (old new : Key → ℕ) (es : List Element) → ((key : Key) → old key ≤ new key) → All (IsMarked old) es → All (IsMarked new) es
still_marked old new es rise marked k d less =
    let was = marked k d less in
    record { create = omega (arith, was.create, rise (element_key (get_or es k d))); delete = omega (arith, was.delete, rise (element_key (get_or es k d))) }

-- a new element's ids are marked
pub marked_inserted : (old new : Key → ℕ) (e : Element) (es : List Element) → Marks (element_key e) (last_id e) old new → All (IsMarked old) es
    → All (IsMarked new) (inserted e es)
marked_inserted old new e es marks marked =
    let first : IsMarked new e = record { create = omega (arith, marks.reach); delete = omega (arith, marks.reach) } in
    All-from_recursion (IsMarked new) (inserted e es)
    (each_inserted (IsMarked new) e es first (recursion_from_All (IsMarked new) es (still_marked old new es (marks_never_fall _ _ old new marks) marked)))

-- a new element comes, or the list stays
pub marked_if : {A E : Type 0} (result : Result A E) (old new : Key → ℕ) (e : Element) (es fs : List Element) → Marks (element_key e) (last_id e) old new
    → All (IsMarked old) es → OnOk result (fs ≡ inserted e es) → OnErr result (fs ≡ es) → All (IsMarked new) fs
marked_if (Ok value) old new e es fs marks marked ok err = rw ok (marked_inserted old new e es marks marked)
marked_if (Err error) old new e es fs marks marked ok err = rw err (still_marked old new es (marks_never_fall _ _ old new marks) marked)

-- the others stay marked
pub marked_removed : (mark : Key → ℕ) (at : Key) (es : List Element) → All (IsMarked mark) es → All (IsMarked mark) (removed at es)
marked_removed mark at es marked =
    All-from_recursion (IsMarked mark) (removed at es) (each_removed (IsMarked mark) at es (recursion_from_All (IsMarked mark) es marked))

-- another delete id is marked
pub marked_closed : (old new : Key → ℕ) (at : Key) (delete : ℕ) (es : List Element) → Marks at delete old new → All (IsMarked old) es
    → All (IsMarked new) (with_delete at delete es)
marked_closed old new at delete es marks marked =
    All-from_recursion (IsMarked new) (with_delete at delete es)
    (each_changed (IsMarked new) at (closed_at delete) es still
    (recursion_from_All (IsMarked new) es (still_marked old new es (marks_never_fall _ _ old new marks) marked))) where
      still : (e : Element) → stands_at at e ≡ true → IsMarked new e → IsMarked new (closed_at delete e)
      still e stands is = record { create = is.create; delete = subst (λ (k : Key). delete ≤ new k) (sym (stands_same at e stands)) marks.reach }

-- ids do not change with the payload's place
pub marked_moved : (mark : Key → ℕ) (at : Key) (to : ℕ) (es : List Element) → All (IsMarked mark) es → All (IsMarked mark) (with_payload at to es)
marked_moved mark at to es marked =
    All-from_recursion (IsMarked mark) (with_payload at to es)
    (each_changed (IsMarked mark) at (moved_to to) es (λ e stands is. record { create = is.create; delete = is.delete })
    (recursion_from_All (IsMarked mark) es marked))

-- what a search from a key finds
pub found_from : (at : Key) (es : List Element) (found : Option Element) → All IsElement es → found ≡ first_from at es → IfSome found (IsFound at)
found_from at es found each same = rw same (search_from es (recursion_from_All IsElement es each)) where
  search_from : (es : List Element) → AllByRecursion IsElement es → IfSome (first_from at es) (IsFound at)
  search_from [] each = tt
  search_from (e ∷ es) each = by_test (key_cmp (element_key e) at) refl (search_from es each.1) where
    by_test : (o : Ordering) → key_cmp (element_key e) at ≡ o → IfSome (first_from at es) (IsFound at)
        → IfSome (if is_lt o then first_from at es else Some e) (IsFound at)
    by_test Less is more = more
    by_test Equal is more = record { element = each.0; place = λ before. true≢false (ap is_lt (sym before ∙ is)) }
    by_test Greater is more = record { element = each.0; place = λ before. true≢false (ap is_lt (sym before ∙ is)) }

-- marks up to the key itself and between it and an end are all the marks there
pub quiet_from : (mark : Key → ℕ) (at end : Key) (since : ℕ) → mark at ≤ since → ((key : Key) → IsBefore at key → IsBefore key end → mark key ≤ since)
    → (key : Key) → IsFrom at key → IsBefore key end → mark key ≤ since
quiet_from mark at end since here between key from before = by_order (key_cmp at key) refl where
  by_order : (o : Ordering) → key_cmp at key ≡ o → mark key ≤ since
  by_order Less is = between key is before
  by_order Equal is = subst (λ (k : Key). mark k ≤ since) (key_same at key is) here
  by_order Greater is = absurd (from (key_before key at is))
