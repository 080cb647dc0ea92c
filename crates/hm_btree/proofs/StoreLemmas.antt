-- What a tree tells as a store of elements.
use Rattle.std.proofs.Common.{◌≡◌, Bool, true, false, true≢false, ℕ, ◌+◌, ◌≤◌, List, refl, sym, ap, ◌∙◌, arith, Some, None, Result, Ok, Err}
use Rattle.std.specs.Prelude.{Option, option_map, IsTrue, is_some, IfSome, IfErr}
use Rattle.std.proofs.Props.{props}
use Rattle.std.proofs.lemmas.Option.{IfSome_then}
use Rattle.hm_types.specs.Elements.{Key}
use Rattle.hm_types.specs.declared.fault.Fault.{Fault}
use Rattle.hm_types.specs.declared.fault.Fault.TheVariants.{Media, Damaged, NoMemory}
use Rattle.hm_fields.specs.Pages.{PageMap}
use Rattle.hm_types.specs.Faults.{IsUndamaged, HasFaultCause, HasStoreCause}
use Rattle.hm_key.specs.declared.element.Element.{Element}
use Rattle.hm_search.specs.Tree.{IsSoundTree}
use Rattle.hm_btree.specs.Marking.{Marking, MarksBy}
use Rattle.hm_btree.specs.Tree.{ChangesTree, IsIntact, told_elements, told_mark}
use Rattle.hm_btree.proofs.IntactLemmas.{intact_tree, told_intact}

-- what a call that changes the tree leaves
pub record StoreChanged (f : List Element → List Element) (key : Key) (marking : Marking) (intact : Bool)
    (old new : Option PageMap) (root root' : ℕ) : Type 0 where
  pub elements : told_elements true new root' ≡ option_map f (told_elements intact old root)
  pub mark : IfSome (told_elements intact old root) (λ _. MarksBy marking key (told_mark old root) (told_mark new root'))
  pub sound : ∥ IsIntact true new root' ∥₁

pub store_changed : (f : List Element → List Element) (key : Key) (marking : Marking) (Needs : List Element → Type 0)
    (intact : Bool) (old new : Option PageMap) (root root' : ℕ)
    → IsTrue intact → ∥ IsIntact intact old root ∥₁ → is_some new ≡ is_some old → IfSome (told_elements intact old root) Needs
    → ChangesTree f key marking Needs old new root root' → StoreChanged f key marking intact old new root root'
store_changed f key marking Needs false old new root root' is sound told needs changes = absurd (true≢false (sym is))
store_changed f key marking Needs true None None root root' is sound told needs changes = record { elements = refl; mark = tt; sound = ∣ tt ∣₁ }
store_changed f key marking Needs true None (Some new) root root' is sound told needs changes = absurd (true≢false told)
store_changed f key marking Needs true (Some old) None root root' is sound told needs changes = absurd (true≢false (sym told))
store_changed f key marking Needs true (Some old) (Some new) root root' is sound told needs changes =
    let change = changes (intact_tree true (Some old) root refl sound) needs in
    record { elements = ap Some change.elements; mark = change.mark; sound = ∣ change.tree ∣₁ }

undamaged_prop : (fault : Fault) → IsProp (IsUndamaged fault)
undamaged_prop (Media before after) = hlevel props
undamaged_prop (Damaged at kind) = hlevel props
undamaged_prop NoMemory = hlevel props

-- no damage is told where the elements are
pub caused_in_store : {T : Type 0} (intact : Bool) (told : Option PageMap) (root old new : ℕ) (result : Result T Fault) → ∥ IsIntact intact told root ∥₁
    → HasFaultCause old new result → IfSome told (λ pages. IsSoundTree pages root → IfErr result IsUndamaged)
    → HasStoreCause (told_elements intact told root) old new result
caused_in_store intact told root old new result sound counted undamaged = record {
  counted = counted;
  undamaged = told_intact (λ _ _. IfErr result IsUndamaged) intact told root (λ pages. by_result result) sound
      (IfSome_then told undamaged (λ pages undamaged tree. undamaged tree.sound));
} where
  by_result : {T : Type 0} (r : Result T Fault) → IsProp (IfErr r IsUndamaged)
  by_result (Ok x) = hlevel props
  by_result (Err fault) = undamaged_prop fault

-- the number of told lists stays
pub told_kept : (f : List Element → List Element) (intact : Bool) (old new : Option PageMap) (root root' : ℕ)
    → told_elements true new root' ≡ option_map f (told_elements intact old root)
    → is_some (told_elements true new root') ≡ is_some (told_elements intact old root)
told_kept f intact old new root root' is = ap is_some is ∙ by_option (told_elements intact old root) where
  by_option : (o : Option (List Element)) → is_some (option_map f o) ≡ is_some o
  by_option None = refl
  by_option (Some es) = refl

-- a room that stays
pub room_kept : (old new : ℕ → ℕ) (zone : ℕ) → new ≡ old → old zone ≤ new zone + 0
room_kept old new zone same = omega (arith, ap (λ (f : ℕ → ℕ). f zone) same)
