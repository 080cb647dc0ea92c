-- A tree that is intact.
use Rattle.std.proofs.Common.{Bool, true, false, true≢false, ℕ, List, sym, Some, None, Err}
use Rattle.std.specs.Prelude.{Option, IfSome, IsTrue}
use Rattle.std.proofs.Math.Logic.{∥∥₁_elim}
use Rattle.std.proofs.Props.{props}
use Rattle.hm_types.specs.declared.fault.Fault.{Fault}
use Rattle.hm_fields.specs.Pages.{PageMap}
use Rattle.hm_types.specs.Faults.{HasStoreCause, IsUndamaged}
use Rattle.hm_key.specs.declared.element.Element.{Element}
use Rattle.hm_node.specs.Props.{IsZone-prop}
use Rattle.hm_search.specs.Props.{IsSoundTree-prop, IsWhole-prop}
use Rattle.hm_search.specs.Tree.{elements_of}
use Rattle.hm_btree.specs.Space.{IsSpot}
use Rattle.hm_btree.specs.Tree.{IsTreeSpace, IsIntact, told_elements}

IsSpot-prop : (at : ℕ) → IsProp (IsSpot at)
IsSpot-prop at = hlevel (IsZone-prop, props)

IsTreeSpace-prop : (map : PageMap) (root : ℕ) → IsProp (IsTreeSpace map root)
IsTreeSpace-prop map root = hlevel (IsSoundTree-prop, IsWhole-prop, IsSpot-prop, props)

-- its pages are a tree, where they are told
pub intact_tree : (intact : Bool) (told : Option PageMap) (root : ℕ) → IsTrue intact → ∥ IsIntact intact told root ∥₁
    → IfSome told (λ was. IsTreeSpace was root)
intact_tree false told root is sound = absurd (true≢false (sym is))
intact_tree true None root is sound = tt
intact_tree true (Some map) root is sound = ∥∥₁_elim sound (IsTreeSpace-prop map root) (λ tree. tree)

-- and its elements are those that it tells
pub intact_elements : (Needs : List Element → Type 0) (intact : Bool) (told : Option PageMap) (root : ℕ) → IsTrue intact
    → IfSome (told_elements intact told root) Needs → IfSome told (λ was. Needs (elements_of was root))
intact_elements Needs false told root is needs = absurd (true≢false (sym is))
intact_elements Needs true None root is needs = tt
intact_elements Needs true (Some map) root is needs = needs

-- what holds of its elements where the pages are told, holds of those that it tells
elements_told : (P : List Element → Type 0) (intact : Bool) (told : Option PageMap) (root : ℕ)
    → IfSome told (λ pages. P (elements_of pages root)) → IfSome (told_elements intact told root) P
elements_told P false told root is = tt
elements_told P true None root is = tt
elements_told P true (Some map) root is = is

-- and so does what holds where they are a tree
pub told_intact : (P : Option PageMap → List Element → Type 0) (intact : Bool) (told : Option PageMap) (root : ℕ)
    → ((pages : PageMap) → IsProp (P (Some pages) (elements_of pages root))) → ∥ IsIntact intact told root ∥₁
    → IfSome told (λ pages. IsTreeSpace pages root → P (Some pages) (elements_of pages root)) → IfSome (told_elements intact told root) (P told)
told_intact P false told root prop sound more = tt
told_intact P true None root prop sound more = tt
told_intact P true (Some map) root prop sound more = ∥∥₁_elim sound (prop map) more

-- the cause of a fault of a call that needs the tree sound where its pages are told
pub cause_in_tree : {T U : Type 0} (intact : Bool) (told : Option PageMap) (root old new : ℕ) (fault : Fault)
    → HasStoreCause {T = T} told old new (Err fault) → HasStoreCause {T = U} (told_elements intact told root) old new (Err fault)
cause_in_tree intact told root old new fault cause = record {
  counted = record { never_falls = cause.counted.never_falls; caused = cause.counted.caused };
  undamaged = elements_told (λ _. IsUndamaged fault) intact told root cause.undamaged;
}
