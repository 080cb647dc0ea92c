-- The PFS that a call changes, and the one that it adds.
use Rattle.std.proofs.Common.{◌≡◌, ℕ, true, List, [], ◌∷◌, ◌++◌, refl, ◌∙◌, ap, inl, inr, arith, eqb}
use Rattle.std.specs.Prelude.{Option, Some, None, if◌then◌else◌}
use Rattle.std.specs.Option.{option_map_or}
use Rattle.std.proofs.lemmas.Bool.Decides.{nat_tests}
use Rattle.hm_types.specs.declared.text.Text.{Text}
use Rattle.hm_model.specs.declared.command.Command.{Command}
use Rattle.hm_model.specs.declared.command.Command.TheVariants.{PfsMaster, PfsSlave}
use Rattle.hm_model.specs.Call.{Call, own_id}
use Rattle.hm_model.specs.Change.{change, changed, changed_pfs, new_slave, with_system}
use Rattle.hm_model.specs.Due.{new_pfs}
use Rattle.hm_types.specs.Tree.{FileTree, root_tree}
use Rattle.hm_model.specs.View.{Now}
use Rattle.hm_model.specs.Volume.{PseudoFileSystem, Volume, add_version, new_master, system_of}
use Rattle.hm_model.proofs.ChangeLemmas.{new_cases, versioned}
use Rattle.hm_model.proofs.GrowthLemmas.{KeepsNumber, changed_in, found-changed, found-other, found-pushed, found_in, same_or_not}
use Rattle.hm_model.proofs.NumberLemmas.{least_unused-is, numbers_in, unused_none}

-- what is found stays found where one more PFS is added
pub still_found : (systems : List PseudoFileSystem) (new s : PseudoFileSystem) (pfs : ℕ) → found_in systems pfs ≡ Some s →
    found_in (systems ++ new ∷ []) pfs ≡ Some s
still_found systems new s pfs found =
    found-pushed systems new pfs ∙ ap (λ (x : Option PseudoFileSystem). option_map_or (λ (y : PseudoFileSystem). Some y) x (found_in (new ∷ []) pfs)) found

-- the changed PFS after a call
pub system-changed : (call : Call) (s : PseudoFileSystem) → system_of call.volume (changed_pfs call) ≡ Some s →
    system_of (change call) (changed_pfs call) ≡ Some (add_version (own_id call) (changed call (call.view (changed_pfs call) Now)) s)
system-changed call s found =
    let tree : FileTree = changed call (call.view (changed_pfs call) Now) in
    let after : PseudoFileSystem = add_version (own_id call) tree s in
    let once : system_of (versioned call) (changed_pfs call) ≡ Some after =
    found-changed (changed_pfs call) (add_version (own_id call) tree) call.volume.systems (λ x. refl)
    ∙ ap (λ (x : Option PseudoFileSystem). option_map_or (λ (y : PseudoFileSystem). Some (add_version (own_id call) tree y)) x None) found in
    new_cases (λ (v : Volume). system_of v (changed_pfs call) ≡ Some after) call (versioned call) call.command once
    (λ shared. still_found (versioned call).systems (new_master (new_pfs call.volume) shared ((own_id call, root_tree) ∷ [])) after (changed_pfs call) once)
    (λ shared. still_found (versioned call).systems (new_slave (new_pfs call.volume) shared) after (changed_pfs call) once)

-- no PFS has the new number, before and after one is changed
none_changed : (pfs other : ℕ) (f : PseudoFileSystem → PseudoFileSystem) (systems : List PseudoFileSystem) → KeepsNumber f →
    found_in systems pfs ≡ None → found_in (changed_in other f systems) pfs ≡ None
none_changed pfs other f systems keeps none = elim (same_or_not other pfs) [
  | inl same ↦ rw same (found-changed pfs f systems keeps ∙ ap
      (λ (x : Option PseudoFileSystem). option_map_or (λ (y : PseudoFileSystem). Some (f y)) x None) none)
  | inr differ ↦ found-other pfs other f systems keeps differ ∙ none
]

-- one more PFS is found under its number where no other has it
found-new : (systems : List PseudoFileSystem) (new : PseudoFileSystem) (pfs : ℕ) → new.number ≡ pfs → found_in systems pfs ≡ None →
    found_in (systems ++ new ∷ []) pfs ≡ Some new
found-new systems new pfs number none =
    let yes : eqb new.number pfs ≡ true = grind (arith, nat_tests, number) in
    found-pushed systems new pfs ∙ (ap (λ (x : Option PseudoFileSystem). option_map_or (λ (y : PseudoFileSystem). Some y) x (found_in (new ∷ []) pfs)) none
    ∙ rw yes refl)

pub none-new : (volume : Volume) → system_of volume (new_pfs volume) ≡ None
none-new volume = unused_none volume.systems (new_pfs volume) (least_unused-is (numbers_in volume.systems)).0

none_new_pfs : (call : Call) → system_of (versioned call) (new_pfs call.volume) ≡ None
none_new_pfs call =
    none_changed (new_pfs call.volume) (changed_pfs call) (add_version (own_id call) (changed call (call.view (changed_pfs call) Now))) call.volume.systems
    (λ s. refl)
    (none-new call.volume)

-- which PFS a command adds
added_master : (call : Call) (volume : Volume) (command : Command) (path : Text) (shared : ℕ) → command ≡ PfsMaster path shared →
    (elim command [
      | PfsMaster p n ↦ with_system volume (new_master (new_pfs call.volume) n ((own_id call, root_tree) ∷ []))
      | PfsSlave p n ↦ with_system volume (new_slave (new_pfs call.volume) n)
      | other ↦ volume
    ]) ≡ with_system volume (new_master (new_pfs call.volume) shared ((own_id call, root_tree) ∷ []))
added_master call volume command path shared is = rw is refl

added_slave : (call : Call) (volume : Volume) (command : Command) (path : Text) (shared : ℕ) → command ≡ PfsSlave path shared →
    (elim command [
      | PfsMaster p n ↦ with_system volume (new_master (new_pfs call.volume) n ((own_id call, root_tree) ∷ []))
      | PfsSlave p n ↦ with_system volume (new_slave (new_pfs call.volume) n)
      | other ↦ volume
    ]) ≡ with_system volume (new_slave (new_pfs call.volume) shared)
added_slave call volume command path shared is = rw is refl

pub system-new_master : (call : Call) (path : Text) (shared : ℕ) → call.command ≡ PfsMaster path shared →
    system_of (change call) (new_pfs call.volume) ≡ Some (new_master (new_pfs call.volume) shared ((own_id call, root_tree) ∷ []))
system-new_master call path shared is =
    ap (λ (v : Volume). system_of v (new_pfs call.volume)) (added_master call (versioned call) call.command path shared is)
    ∙ found-new (versioned call).systems (new_master (new_pfs call.volume) shared ((own_id call, root_tree) ∷ [])) (new_pfs call.volume) refl
    (none_new_pfs call)

pub system-new_slave : (call : Call) (path : Text) (shared : ℕ) → call.command ≡ PfsSlave path shared →
    system_of (change call) (new_pfs call.volume) ≡ Some (new_slave (new_pfs call.volume) shared)
system-new_slave call path shared is =
    ap (λ (v : Volume). system_of v (new_pfs call.volume)) (added_slave call (versioned call) call.command path shared is)
    ∙ found-new (versioned call).systems (new_slave (new_pfs call.volume) shared) (new_pfs call.volume) refl (none_new_pfs call)
