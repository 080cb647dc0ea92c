-- What a job keeps is enough for a volume still, and for the one with which it begins.
use Rattle.std.proofs.Common.{◌≡◌, ◌≢◌, ℕ, Bool, true, false, List, [], refl, sym, subst, inl, inr}
use Rattle.std.specs.Prelude.{Option, None, Some}
use Rattle.hm_types.specs.Intervals.{Keeps}
use Rattle.hm_model.specs.After.{of_pfs}
use Rattle.hm_model.specs.Call.{Call, own_id}
use Rattle.hm_model.specs.Change.{changed_pfs}
use Rattle.hm_model.specs.Laws.{adds_pfs}
use Rattle.hm_model.specs.Volume.{PseudoFileSystem, Volume, add_version, system_of}
use Rattle.hm_model.proofs.GrowthLemmas.{same_or_not}
use Rattle.hm_step.specs.Pruned.{HasSystemFor, IsEnough, KeepsEnough, StillKeeps}
use Rattle.hm_step.specs.Step.{after_call, drawn}
use Rattle.hm_step.proofs.SystemLemmas.{changed_one, new_tree, on_each, still_there}

-- for fewer ids
pub enough_less : (told : Option (List (ℕ × ℕ))) (old new : List (ℕ × ℕ)) → ((t : ℕ) → Keeps new t → Keeps old t) → IsEnough told old → IsEnough told new
enough_less None old new fewer was = tt
enough_less (Some ids) old new fewer was = λ t keeps. was t (fewer t keeps)

-- where a PFS that was there is there still
pub system_for : (volume after : Volume) (pfs : ℕ) (told : Option (List (ℕ × ℕ)))
    → ((s : PseudoFileSystem) → system_of volume pfs ≡ Some s → (s' : PseudoFileSystem) × (system_of after pfs ≡ Some s'))
    → HasSystemFor volume pfs told → HasSystemFor after pfs told
system_for volume after pfs None still was = tt
system_for volume after pfs (Some ids) still was = λ t keeps. let (s, is) = was t keeps in still s is

-- ---- after a call

-- a version more leaves every retention
pub keeps_newer : (call : Call)
    → StillKeeps call.volume (drawn (own_id call) (of_pfs call.volume (changed_pfs call) (add_version (own_id call) (new_tree call))))
keeps_newer call kept enough = record {
  within = on_each call.volume pfs newer (λ s. refl) (λ other s. IsEnough (kept other) s.retention) (λ other s differ is. enough.within other s is)
      (λ s is. enough.within pfs s is);
  of_systems = λ other. system_for call.volume (drawn (own_id call) (of_pfs call.volume pfs newer)) other (kept other)
      (λ s is. still_there call.volume pfs newer (λ u. refl) other s is) (enough.of_systems other);
} where
  pfs : ℕ
  pfs = changed_pfs call

  newer : PseudoFileSystem → PseudoFileSystem
  newer = add_version (own_id call) (new_tree call)

-- so does a call that adds no PFS
pub keeps_after : (test : Bool) (call : Call) → adds_pfs call.command ≡ false → StillKeeps call.volume (after_call test call)
keeps_after false call adds kept enough = record { within = enough.within; of_systems = enough.of_systems }
keeps_after true call adds kept enough =
    subst (λ (v : Volume). KeepsEnough kept (drawn (own_id call) v)) (sym (changed_one call adds)) (keeps_newer call kept enough)

-- ---- as it begins

module _ (volume : Volume) (pfs : ℕ) (kept : ℕ → Option (List (ℕ × ℕ))) (none : (other : ℕ) → other ≢ pfs → kept other ≡ None) where
  pub enough_kept : (s : PseudoFileSystem) → system_of volume pfs ≡ Some s → kept pfs ≡ Some s.retention → KeepsEnough kept volume
  enough_kept s there is = record {
    within = λ other u found. elim (same_or_not other pfs) [
      | inl same ↦
          let here : system_of volume pfs ≡ Some u = subst (λ (n : ℕ). system_of volume n ≡ Some u) same found in
          let one : s ≡ u = cc in
          subst (λ (x : PseudoFileSystem). IsEnough (kept other) x.retention) one
          (subst (λ (n : ℕ). IsEnough (kept n) s.retention) (sym same)
          (subst (λ (o : Option (List (ℕ × ℕ))). IsEnough o s.retention) (sym is) (λ t keeps. inl keeps)))
      | inr differ ↦ subst (λ (o : Option (List (ℕ × ℕ))). IsEnough o u.retention) (sym (none other differ)) tt
    ];
    of_systems = λ other. elim (same_or_not other pfs) [
      | inl same ↦ subst (λ (n : ℕ). HasSystemFor volume n (kept n)) (sym same)
          (subst (HasSystemFor volume pfs) (sym is) (λ t keeps. (s, there)))
      | inr differ ↦ subst (HasSystemFor volume other) (sym (none other differ)) tt
    ];
  }

  pub enough_nothing : kept pfs ≡ Some [] → KeepsEnough kept volume
  enough_nothing is = record {
    within = λ other u found. elim (same_or_not other pfs) [
      | inl same ↦
          subst (λ (n : ℕ). IsEnough (kept n) u.retention) (sym same)
          (subst (λ (o : Option (List (ℕ × ℕ))). IsEnough o u.retention) (sym is) (λ t keeps. inr (λ v held. absurd held)))
      | inr differ ↦ subst (λ (o : Option (List (ℕ × ℕ))). IsEnough o u.retention) (sym (none other differ)) tt
    ];
    of_systems = λ other. elim (same_or_not other pfs) [
      | inl same ↦ subst (λ (n : ℕ). HasSystemFor volume n (kept n)) (sym same)
          (subst (HasSystemFor volume pfs) (sym is) (λ t held. absurd held))
      | inr differ ↦ subst (HasSystemFor volume other) (sym (none other differ)) tt
    ];
  }
