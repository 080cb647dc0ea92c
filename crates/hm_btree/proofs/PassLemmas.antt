-- The cause of each fault of a call on pages that are known to hold nodes.
use Rattle.std.proofs.Common.{◌≡◌, ℕ, ◌≤◌, Result, Ok, Err, Some, arith, subst, sym}
use Rattle.std.specs.Prelude.{Option, IfSome, is_some, slice_get}
use Rattle.std.proofs.lemmas.Option.{IfSome_then}
use Rattle.hm_types.specs.Faults.{HasFaultCause, HasStoreCause, IsUndamaged}
use Rattle.hm_types.specs.declared.fault.Fault.{Fault}
use Rattle.hm_types.specs.declared.fault.Fault.TheVariants.{Media, Damaged, NoMemory}
use Rattle.hm_fields.specs.Pages.{PageMap}
use Rattle.hm_node.specs.declared.inner.Inner.{Inner}
use Rattle.hm_node.specs.declared.node.Node.{Node}
use Rattle.hm_node.specs.declared.node.Node.TheVariants.{Inner as inner_node}
use Rattle.hm_search.specs.Descent.{HasSearchCause, IsUnmetBelow, PassesHere}
use Rattle.hm_search.specs.Place.{TellsUnmet}
use Rattle.hm_search.specs.Tree.{children_of, IsTree}
use Rattle.hm_search.specs.declared.subtree.Subtree.{Subtree}
use Rattle.hm_search.proofs.DamageLemmas.{caused_since, tells_met}
use Rattle.hm_search.proofs.DescentLemmas.{cause_ok, search_cause, unmet_below, unmet_here}
use Rattle.hm_btree.specs.Below.{HasPassCause}
use Rattle.hm_btree.proofs.EditLemmas.{stored_below, tree_read}
use Rattle.hm_btree.proofs.ToldLemmas.{IfSome_both, IfSome_kept}

-- a fault of the read of a child
pub pass_cause_read : {T U : Type 0} (told : Option PageMap) (node : Node) (inner : Inner) (i : ℕ) (s : Subtree) (old new : ℕ) (fault : Fault)
    → node ≡ inner_node inner → slice_get (children_of inner) i ≡ Some s
    → HasFaultCause {T = U} old new (Err fault) → IfSome told (λ map. TellsUnmet s (map s.at) fault)
    → HasPassCause {T = T} told node old new (Err fault)
pass_cause_read told node inner i s old new fault is at counted damage = record {
  counted = record { never_falls = counted.never_falls; caused = counted.caused };
  damage = IfSome_then told damage (λ map damage place here. unmet_below map place s fault
      (inner, subst (λ (n : Node). PassesHere map place n) is here, i, at) (unmet_here map s fault damage));
  undamaged = IfSome_then told damage (λ map damage place height tree.
      let below = stored_below map height place node inner i s tree is at in
      tells_met s (map s.at) fault below.stored.there below.stored.tree.fits damage);
}

-- one further down
pub pass_cause_below : {T : Type 0} (told now : Option PageMap) (node child : Node) (inner : Inner) (i : ℕ) (s : Subtree)
    (old mid new : ℕ) (fault : Fault) → node ≡ inner_node inner → slice_get (children_of inner) i ≡ Some s
    → now ≡ told → old ≤ mid → IfSome told (λ map. PassesHere map s child) → HasPassCause {T = T} now child mid new (Err fault)
    → HasPassCause {T = T} told node old new (Err fault)
pass_cause_below told now node child inner i s old mid new fault is at same low here cause = record {
  counted = record { never_falls = omega (arith, cause.counted.never_falls); caused = caused_since old mid new fault low cause.counted.caused };
  damage = IfSome_both told here (subst (λ (o : Option PageMap). IfSome o (λ map. (place : Subtree) → PassesHere map place child
      → IsUnmetBelow map place fault)) same cause.damage) (λ map here more place passes. unmet_below map place s fault
      (inner, subst (λ (n : Node). PassesHere map place n) is passes, i, at) (more s here));
  undamaged = IfSome_both told here (subst (λ (o : Option PageMap). IfSome o (λ map. (place : Subtree) (height : ℕ)
      → IsTree map height place child → IsUndamaged fault)) same cause.undamaged) (λ map here more place height tree.
      let below = stored_below map height place node inner i s tree is at in
      more s below.lower (tree_read map below.lower s child below.stored here.spelled));
}

-- a fault that tells of no damage
unmet_none : (map : PageMap) (s : Subtree) (fault : Fault) → IsUndamaged fault → IsUnmetBelow map s fault
unmet_none map s (Media before after) is = tt
unmet_none map s (Damaged at kind) is = absurd is
unmet_none map s NoMemory is = tt

-- a fault of a write
pub pass_cause_write : {T U : Type 0} (told mid : Option PageMap) (node : Node) (old middle new : ℕ) (fault : Fault)
    → is_some mid ≡ is_some told → old ≤ middle → HasStoreCause {T = U} mid middle new (Err fault) → HasPassCause {T = T} told node old new (Err fault)
pass_cause_write told mid node old middle new fault same low cause =
    let undamaged : IfSome told (λ _. IsUndamaged fault) = IfSome_kept mid told _ (sym same) cause.undamaged in
    record {
      counted = record { never_falls = omega (arith, low, cause.counted.never_falls); caused = caused_since old middle new fault low cause.counted.caused };
      damage = IfSome_then told undamaged (λ map is place here. unmet_none map place fault is);
      undamaged = IfSome_then told undamaged (λ map is place height tree. is);
    }

-- the same of a call from a place on whose node was read: a fault below it, and one of a write
pub place_cause_below : {T U : Type 0} (told now : Option PageMap) (s : Subtree) (node : Node) (old mid new : ℕ) (fault : Fault)
    → now ≡ told → old ≤ mid → IfSome told (λ map. PassesHere map s node)
    → HasPassCause {T = T} now node mid new (Err fault) → HasSearchCause {T = U} told s old new (Err fault)
place_cause_below {U = U} told now s node old mid new fault same low here cause =
    search_cause {T = U} told s old new (Err fault) (record {
      never_falls = omega (arith, cause.counted.never_falls);
      caused = caused_since old mid new fault low cause.counted.caused;
    })
    (IfSome_both told here (subst (λ (o : Option PageMap). IfSome o (λ map. (place : Subtree) → PassesHere map place node
    → IsUnmetBelow map place fault)) same cause.damage) (λ map here more. more s here))

pub place_cause_write : {T U : Type 0} (told mid : Option PageMap) (s : Subtree) (old middle new : ℕ) (fault : Fault)
    → is_some mid ≡ is_some told → old ≤ middle → HasStoreCause {T = U} mid middle new (Err fault)
    → HasSearchCause {T = T} told s old new (Err fault)
place_cause_write {T = T} told mid s old middle new fault same low cause =
    search_cause {T = T} told s old new (Err fault) (record {
      never_falls = omega (arith, low, cause.counted.never_falls);
      caused = caused_since old middle new fault low cause.counted.caused;
    }) (IfSome_then told (IfSome_kept mid told _ (sym same) cause.undamaged) (λ map is. unmet_none map s fault is))

pub place_cause_result : {T : Type 0} (told mid : Option PageMap) (s : Subtree) (old middle new : ℕ) (result : Result T Fault)
    → is_some mid ≡ is_some told → old ≤ middle → HasStoreCause mid middle new result → HasSearchCause told s old new result
place_cause_result told mid s old middle new (Ok x) same low cause =
    cause_ok told s old new x (omega (arith, low, cause.counted.never_falls))
place_cause_result {T = T} told mid s old middle new (Err fault) same low cause =
    place_cause_write {T = T} {U = T} told mid s old middle new fault same low cause
