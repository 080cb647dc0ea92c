-- What a search in the tree finds, as a store of elements tells it.
use Rattle.std.proofs.Common.{◌≡◌, Bool, ℕ, List, Some, None, Result, Ok, Err}
use Rattle.std.specs.Prelude.{Option, IfSome, IfOk}
use Rattle.std.proofs.lemmas.Option.{IfSome_then}
use Rattle.std.proofs.Props.{props}
use Rattle.hm_types.specs.Elements.{Key}
use Rattle.hm_types.specs.declared.fault.Fault.{Fault}
use Rattle.hm_fields.specs.Pages.{PageMap}
use Rattle.hm_key.specs.Marks.{IsQuiet}
use Rattle.hm_types.specs.Faults.{HasStoreCause}
use Rattle.hm_key.specs.declared.base.Base.{Base}
use Rattle.hm_key.specs.declared.element.Element.{Element}
use Rattle.hm_search.specs.Descent.{HasSearchCause}
use Rattle.hm_search.specs.Tree.{IsSoundTree, IsWhole, elements_of, mark_of, root_place, height_of, node_at}
use Rattle.hm_btree.specs.Tree.{IsIntact, told_elements, told_mark}
use Rattle.hm_btree.proofs.IntactLemmas.{told_intact}
use Rattle.hm_btree.proofs.StoreLemmas.{caused_in_store}

-- the element that a search picks among all, of a tree beside which no page stands
pub picked_in_store : (pick : List Element → Option Element) (intact : Bool) (told : Option PageMap) (root : ℕ)
    (r : Result (Option Element) Fault) → ∥ IsIntact intact told root ∥₁
    → IfSome told (λ pages. IsSoundTree pages root → IsWhole pages root → IfOk r (λ found. found ≡ pick (elements_of pages root)))
    → IfSome (told_elements intact told root) (λ es. IfOk r (λ found. found ≡ pick es))
picked_in_store pick intact told root r sound found =
    told_intact (λ _ es. IfOk r (λ f. f ≡ pick es)) intact told root (λ pages. by_result (elements_of pages root) r) sound
    (IfSome_then told found (λ pages found tree. found tree.sound tree.whole)) where
      by_result : (es : List Element) (q : Result (Option Element) Fault) → IsProp (IfOk q (λ f. f ≡ pick es))
      by_result es (Ok f) = hlevel props
      by_result es (Err fault) = hlevel props

-- how far nothing changed
pub quiet_in_store : (intact : Bool) (told : Option PageMap) (root : ℕ) (at : Key) (since : ℕ) (r : Result (Option Base) Fault)
    → ∥ IsIntact intact told root ∥₁
    → IfSome told (λ pages. IsSoundTree pages root → IfOk r (IsQuiet (mark_of pages root) at since))
    → IfSome (told_elements intact told root) (λ _. IfOk r (IsQuiet (told_mark told root) at since))
quiet_in_store intact told root at since r sound quiet =
    told_intact (λ o _. IfOk r (IsQuiet (told_mark o root) at since)) intact told root (λ pages. by_result (mark_of pages root) r) sound
    (IfSome_then told quiet (λ pages quiet tree. quiet tree.sound)) where
      by_result : (mark : Key → ℕ) (q : Result (Option Base) Fault) → IsProp (IfOk q (IsQuiet mark at since))
      by_result mark (Ok None) = hlevel props
      by_result mark (Ok (Some end)) = hlevel props
      by_result mark (Err fault) = hlevel props

-- the cause of each fault
pub cause_in_store : {T : Type 0} (intact : Bool) (told : Option PageMap) (root old new : ℕ) (r : Result T Fault)
    → ∥ IsIntact intact told root ∥₁ → HasSearchCause told (root_place root) old new r → HasStoreCause (told_elements intact told root) old new r
cause_in_store intact told root old new r sound cause = caused_in_store intact told root old new r sound cause.counted
    (IfSome_then told cause.undamaged (λ pages undamaged sound. undamaged (height_of (node_at pages root)) sound))
