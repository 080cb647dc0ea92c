-- Descents: each step goes one level down, and damage is told only where one comes to.
use Rattle.std.proofs.Common.{◌≡◌, ℕ, zero, suc, ◌<◌, ◌≤◌, refl, ap, subst, arith}
use Rattle.std.specs.Prelude.{Option, Some, None, Result, Ok, Err, IfSome, IfErr, slice_get}
use Rattle.std.proofs.lemmas.Result.{IfErr-weaker}
use Rattle.hm_types.specs.Faults.{HasFaultCause}
use Rattle.hm_types.specs.declared.fault.Fault.{Fault}
use Rattle.hm_types.specs.declared.fault.Fault.TheVariants.{Media, Damaged, NoMemory}
use Rattle.hm_fields.specs.Pages.{PageMap}
use Rattle.hm_types.specs.Faults.{IsUndamaged}
use Rattle.hm_node.specs.Node.{HasLevel, IsNode}
use Rattle.hm_node.specs.declared.inner.Inner.{Inner}
use Rattle.hm_node.specs.declared.node.Node.{Node}
use Rattle.hm_node.specs.declared.node.Node.TheVariants.{Inner as inner_node}
use Rattle.hm_search.specs.Descent.{StandsHere, levels_under, levels_below, LeadsToChild, Descends, IsFaultBelow}
use Rattle.hm_search.specs.Descent.{PassesHere, GoesTo, Goes, IsUnmetBelow, HasSearchCause}
use Rattle.hm_search.specs.Place.{Fits, FitsLevel, MeetsBy, TellsDamage, TellsUnmet}
use Rattle.hm_search.specs.Tree.{node_at, children_of, root_place, IsTree, IsStoredTree}
use Rattle.hm_search.specs.declared.place_rule.PlaceRule.{PlaceRule}
use Rattle.hm_search.specs.declared.place_rule.PlaceRule.TheVariants.{Level}
use Rattle.hm_search.specs.declared.subtree.Parent.{Parent}
use Rattle.hm_search.specs.declared.subtree.Subtree.{Subtree}
use Rattle.hm_search.proofs.ChildLemmas.{place_is}
use Rattle.hm_search.proofs.DamageLemmas.{stored_here, tells_met, tells_undamaged, cause_since}
use Rattle.hm_search.proofs.ListLemmas.{each_get}

-- what an inner node says of the parent of its children
pub child_parent : (inner : Inner) (i : ℕ) (child : Subtree) → slice_get (children_of inner) i ≡ Some child → levels_below child ≡ inner.level
child_parent inner i child is =
    let at = place_is inner.level inner.right inner.places.items i child is in
    ap levels_below at.place

-- a child has fewer levels below it
pub child_lower : (s : Subtree) (inner : Inner) (i : ℕ) (child : Subtree) → IsNode (inner_node inner) → Fits s (inner_node inner)
    → slice_get (children_of inner) i ≡ Some child → levels_below child < levels_below s
child_lower s inner i child sound fits is = by_parent s.parent fits.level where
  by_parent : (p : Option Parent) → FitsLevel p (inner_node inner) → levels_below child < levels_under p
  by_parent None fits = omega (arith, child_parent inner i child is, sound.level.1)
  by_parent (Some p) fits = omega (arith, child_parent inner i child is, fits)

-- a child of an inner node in a sound tree is sound, and one level lower
pub record IsStoredBelow (map : PageMap) (height : ℕ) (s : Subtree) (inner : Inner) (child : Subtree) : Type 0 where
  pub lower : ℕ
  pub is : height ≡ suc lower
  pub tree : IsTree map (suc lower) s (inner_node inner)
  pub stored : IsStoredTree map lower child

pub child_stored : (map : PageMap) (height : ℕ) (s : Subtree) (inner : Inner) (i : ℕ) (child : Subtree) → IsStoredTree map height s
    → node_at map s.at ≡ inner_node inner
    → slice_get (children_of inner) i ≡ Some child → IsStoredBelow map height s inner child
child_stored map height s inner i child stored is at = by_height height (subst (λ (n : Node). IsTree map height s n) is stored.tree) where
  by_height : (h : ℕ) → IsTree map h s (inner_node inner) → IsStoredBelow map h s inner child
  by_height zero tree = absurd (omega (arith, tree.level, tree.sound.level.0))
  by_height (suc h) tree = record { lower = h; is = refl; tree = tree; stored = each_get (IsStoredTree map h) (children_of inner) i child at tree.below }

-- the places on the way
pub leads : (map : PageMap) (s : Subtree) (inner : Inner) (i : ℕ) (child : Subtree) → StandsHere map s (inner_node inner)
    → slice_get (children_of inner) i ≡ Some child → LeadsToChild map s child
leads map s inner i child here at = (inner, here, i, at)

-- a fault at the place itself, and one further down
pub fault_here : (map : PageMap) (s : Subtree) (fault : Fault) → TellsDamage s (map s.at) fault → IsFaultBelow map s fault
fault_here map s (Media before after) tells = tt
fault_here map s (Damaged at kind) tells = (0, s, refl, tells)
fault_here map s NoMemory tells = tt

pub fault_below : (map : PageMap) (s child : Subtree) (fault : Fault) → LeadsToChild map s child → IsFaultBelow map child fault → IsFaultBelow map s fault
fault_below map s child (Media before after) to below = tt
fault_below map s child (Damaged at kind) to (steps, end, descends, tells) = (suc steps, end, (child, to, descends), tells)
fault_below map s child NoMemory to below = tt

-- descents in a sound tree come to sound trees alone
pub descent_sound : (map : PageMap) (steps height : ℕ) (s end : Subtree) → IsStoredTree map height s → Descends map steps s end
    → (lower : ℕ) × IsStoredTree map lower end
descent_sound map zero height s end stored is = (height, subst (IsStoredTree map height) is stored)
descent_sound map (suc steps) height s end stored (next, (inner, here, i, at), descends) =
    let below = child_stored map height s inner i next stored (here.spelled stored.there).value at in
    descent_sound map steps below.lower next end below.stored descends

pub sound_undamaged : (map : PageMap) (height : ℕ) (s : Subtree) (fault : Fault) → IsStoredTree map height s → IsFaultBelow map s fault → IsUndamaged fault
sound_undamaged map height s (Media before after) stored below = tt
sound_undamaged map height s (Damaged at kind) stored (steps, end, descends, tells) =
    let sound = descent_sound map steps height s end stored descends in
    tells_undamaged end (map end.at) (node_at map end.at) (Damaged at kind) sound.1.there (stored_here map sound.0 end sound.1) tells
sound_undamaged map height s NoMemory stored below = tt

-- Descents of searches. A child of a node that passes has fewer levels below it.
pub goes_lower : (s : Subtree) (inner : Inner) (i : ℕ) (child : Subtree) → HasLevel (inner_node inner)
    → ((rule : PlaceRule) → MeetsBy s (inner_node inner) rule)
    → slice_get (children_of inner) i ≡ Some child → levels_below child < levels_below s
goes_lower s inner i child level meets is = by_parent s.parent (meets Level) where
  by_parent : (p : Option Parent) → FitsLevel p (inner_node inner) → levels_below child < levels_under p
  by_parent None fits = omega (arith, child_parent inner i child is, level.1)
  by_parent (Some p) fits = omega (arith, child_parent inner i child is, fits)

-- and it has two at least, as its parent's level is
pub child_levels : (inner : Inner) (i : ℕ) (child : Subtree) → HasLevel (inner_node inner) → slice_get (children_of inner) i ≡ Some child
    → 2 ≤ levels_below child
child_levels inner i child level is = omega (arith, child_parent inner i child is, level.0)

-- the levels of a root, with one more
pub root_levels : (s : Subtree) (root : ℕ) → s ≡ root_place root → levels_below s ≡ 10
root_levels s root is = ap levels_below is

-- a fault at the place itself, and one further down
pub unmet_here : (map : PageMap) (s : Subtree) (fault : Fault) → TellsUnmet s (map s.at) fault → IsUnmetBelow map s fault
unmet_here map s (Media before after) tells = tt
unmet_here map s (Damaged at kind) tells = (0, s, refl, tells)
unmet_here map s NoMemory tells = tt

pub unmet_below : (map : PageMap) (s child : Subtree) (fault : Fault) → GoesTo map s child → IsUnmetBelow map child fault → IsUnmetBelow map s fault
unmet_below map s child (Media before after) to below = tt
unmet_below map s child (Damaged at kind) to (steps, end, goes, tells) = (suc steps, end, (child, to, goes), tells)
unmet_below map s child NoMemory to below = tt

-- searches in a sound tree come to sound trees alone
pub goes_sound : (map : PageMap) (steps height : ℕ) (s end : Subtree) → IsStoredTree map height s → Goes map steps s end
    → (lower : ℕ) × IsStoredTree map lower end
goes_sound map zero height s end stored is = (height, subst (IsStoredTree map height) is stored)
goes_sound map (suc steps) height s end stored (next, (inner, here, i, at), goes) =
    let below = child_stored map height s inner i next stored (here.spelled stored.there).value at in
    goes_sound map steps below.lower next end below.stored goes

pub unmet_undamaged : (map : PageMap) (height : ℕ) (s : Subtree) (fault : Fault) → IsStoredTree map height s → IsUnmetBelow map s fault → IsUndamaged fault
unmet_undamaged map height s (Media before after) stored below = tt
unmet_undamaged map height s (Damaged at kind) stored (steps, end, goes, tells) =
    let sound = goes_sound map steps height s end stored goes in
    tells_met end (map end.at) (Damaged at kind) sound.1.there sound.1.tree.fits tells
unmet_undamaged map height s NoMemory stored below = tt

-- the cause of each fault of a search
pub search_cause : {T : Type 0} (told : Option PageMap) (s : Subtree) (old new : ℕ) (result : Result T Fault) → HasFaultCause old new result
    → IfSome told (λ map. IfErr result (IsUnmetBelow map s))
    → HasSearchCause told s old new result
search_cause None s old new result counted damage = record { counted = counted; damage = tt; undamaged = tt }
search_cause (Some map) s old new result counted damage = record {
  counted = counted;
  damage = damage;
  undamaged = λ height stored. IfErr-weaker result (IsUnmetBelow map s) IsUndamaged (λ fault below. unmet_undamaged map height s fault stored below) damage;
}

-- a result that is no fault
pub cause_ok : {T : Type 0} (told : Option PageMap) (s : Subtree) (old new : ℕ) (value : T) → old ≤ new → HasSearchCause told s old new (Ok value)
cause_ok told s old new value low = search_cause told s old new (Ok value) (record { never_falls = low; caused = tt }) (if_told told) where
  if_told : (o : Option PageMap) → IfSome o (λ map. Unit {0})
  if_told None = tt
  if_told (Some map) = tt

-- a fault of the first page that is read
pub cause_here : {T U : Type 0} (told : Option PageMap) (s : Subtree) (old new : ℕ) (fault : Fault) → HasFaultCause {T = U} old new (Err fault)
    → IfSome told (λ map. TellsUnmet s (map s.at) fault)
    → HasSearchCause {T = T} told s old new (Err fault)
cause_here {T = T} told s old new fault counted damage =
    search_cause {T = T} told s old new (Err fault) (record { never_falls = counted.never_falls; caused = counted.caused }) (if_told told damage) where
      if_told : (o : Option PageMap) → IfSome o (λ map. TellsUnmet s (map s.at) fault) → IfSome o (λ map. IsUnmetBelow map s fault)
      if_told None damage = tt
      if_told (Some map) damage = unmet_here map s fault damage

-- a fault is caused whatever else the call could give
pub cause_other : {T U : Type 0} (told : Option PageMap) (s : Subtree) (old new : ℕ) (fault : Fault) → HasSearchCause {T = T} told s old new (Err fault)
    → HasSearchCause {T = U} told s old new (Err fault)
cause_other told s old new fault cause = record {
  counted = record { never_falls = cause.counted.never_falls; caused = cause.counted.caused };
  damage = cause.damage;
  undamaged = cause.undamaged;
}

-- a fault of a search that goes on at a child
pub cause_below : {T : Type 0} (told now : Option PageMap) (s child : Subtree) (old mid new : ℕ) (result : Result T Fault) → now ≡ told → old ≤ mid
    → IfSome told (λ map. GoesTo map s child)
    → HasSearchCause now child mid new result → HasSearchCause told s old new result
cause_below told now s child old mid new result same low to cause =
    search_cause told s old new result (cause_since old mid new result low cause.counted)
    (if_told told to (subst (λ (o : Option PageMap). IfSome o (λ map. IfErr result (IsUnmetBelow map child))) same cause.damage)) where
      if_told : (o : Option PageMap) → IfSome o (λ map. GoesTo map s child) → IfSome o (λ map. IfErr result (IsUnmetBelow map child))
          → IfSome o (λ map. IfErr result (IsUnmetBelow map s))
      if_told None to damage = tt
      if_told (Some map) to damage = IfErr-weaker result (IsUnmetBelow map child) (IsUnmetBelow map s)
          (λ fault below. unmet_below map s child fault to below) damage

-- the step to a child, where the pages are told
pub goes_told : (told : Option PageMap) (s : Subtree) (inner : Inner) (child : Subtree) → IfSome told (λ map. PassesHere map s (inner_node inner))
    → (i : ℕ) × (slice_get (children_of inner) i ≡ Some child) → IfSome told (λ map. GoesTo map s child)
goes_told None s inner child here at = tt
goes_told (Some map) s inner child here (i, at) = (inner, here, i, at)
