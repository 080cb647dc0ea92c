-- The pseudo file systems of a volume after a change of one of them.
use Rattle.std.proofs.Common.{◌≡◌, ◌≢◌, ℕ, Bool, true, false, List, [], ◌∷◌, eqb, refl, sym, ap, subst, ◌∙◌, inl, inr, arith}
use Rattle.std.specs.Prelude.{Option, None, Some, option_map, if◌then◌else◌}
use Rattle.std.specs.List.{All, Contains}
use Rattle.std.specs.Option.{option_map_or}
use Rattle.std.proofs.lemmas.Bool.{eqb-true}
use Rattle.std.proofs.lemmas.Bool.Decides.{nat_tests}
use Rattle.std.proofs.lemmas.List.Elements.{All-contains, All-map}
use Rattle.hm_types.specs.Tree.{FileTree, root_tree}
use Rattle.hm_model.specs.After.{of_pfs}
use Rattle.hm_model.specs.Call.{Call, own_id}
use Rattle.hm_model.specs.Change.{change, changed, changed_pfs, new_slave, with_system}
use Rattle.hm_model.specs.Due.{new_pfs}
use Rattle.hm_model.specs.Laws.{adds_pfs}
use Rattle.hm_model.specs.View.{Now}
use Rattle.hm_model.specs.Volume.{PseudoFileSystem, Volume, add_version, new_master, system_of}
use Rattle.hm_model.specs.declared.command.Command.{Command}
use Rattle.hm_model.specs.declared.command.Command.TheVariants.{PfsMaster, PfsSlave}
use Rattle.hm_model.proofs.ChangeLemmas.{versioned}
use Rattle.hm_model.proofs.GrowthLemmas.{KeepsNumber, changed_in, found-changed, found-other, found_in, same_or_not}
use Rattle.hm_records.proofs.MemberLemmas.{All-from_has}
use Rattle.hm_calls.specs.NewSystems.{system_command}
use Rattle.hm_calls.specs.declared.new_systems.NewSystem.{NewSystem}
use Rattle.hm_calls.specs.declared.new_systems.NewSystem.TheVariants.{Master, Slave}
use Rattle.hm_image.specs.StandFor.{OnEach}

module _ (volume : Volume) (one : ℕ) (f : PseudoFileSystem → PseudoFileSystem) (keeps : KeepsNumber f) where
  -- what becomes of a PFS
  abbrev become : PseudoFileSystem → PseudoFileSystem
  become s = if eqb s.number one then f s else s

  -- what is found under each number
  pub found_beside : (pfs : ℕ) → pfs ≢ one → system_of (of_pfs volume one f) pfs ≡ system_of volume pfs
  found_beside pfs differ = found-other pfs one f volume.systems keeps (λ same. differ (sym same))

  pub found_here : system_of (of_pfs volume one f) one ≡ option_map f (system_of volume one)
  found_here = found-changed one f volume.systems keeps ∙ by (system_of volume one) where
    by : (found : Option PseudoFileSystem) → option_map_or (λ (s : PseudoFileSystem). Some (f s)) found None ≡ option_map f found
    by None = refl
    by (Some s) = refl

  -- a fact of each PFS afterwards
  pub on_each : (P : ℕ → PseudoFileSystem → Type 0)
      → ((pfs : ℕ) (s : PseudoFileSystem) → pfs ≢ one → system_of volume pfs ≡ Some s → P pfs s)
      → ((s : PseudoFileSystem) → system_of volume one ≡ Some s → P one (f s))
      → OnEach (of_pfs volume one f) P
  on_each P beside here pfs s is = elim (same_or_not pfs one) [
    | inl same ↦ subst (λ (n : ℕ). P n s) (sym same)
        (by (system_of volume one) refl (sym found_here ∙ subst (λ (n : ℕ). system_of (of_pfs volume one f) n ≡ Some s) same is))
    | inr differ ↦ beside pfs s differ (sym (found_beside pfs differ) ∙ is)
  ] where
    by : (found : Option PseudoFileSystem) → system_of volume one ≡ found → option_map f found ≡ Some s → P one s
    by None found is = absurd (cc)
    by (Some old) found is =
        let same : f old ≡ s = cc in
        subst (λ (x : PseudoFileSystem). P one x) same (here old found)

  -- one that was there is there still
  pub still_there : (pfs : ℕ) (s : PseudoFileSystem) → system_of volume pfs ≡ Some s
      → (s' : PseudoFileSystem) × (system_of (of_pfs volume one f) pfs ≡ Some s')
  still_there pfs s is = elim (same_or_not pfs one) [
    | inl same ↦ (
      f s,
      subst (λ (n : ℕ). system_of (of_pfs volume one f) n ≡ Some (f s)) (sym same)
          (found_here ∙ ap (option_map f) (subst (λ (n : ℕ). system_of volume n ≡ Some s) same is)),
    )
    | inr differ ↦ (s, found_beside pfs differ ∙ is)
  ]

  -- a fact of all in the list, by what becomes of each
  pub all_after : (P : PseudoFileSystem → Type 0) → All (λ s. system_of volume s.number ≡ Some s) volume.systems
      → ((s : PseudoFileSystem) → Contains volume.systems s → s.number ≢ one → P s)
      → ((s : PseudoFileSystem) → Contains volume.systems s → s.number ≡ one → system_of volume one ≡ Some s → P (f s))
      → All P (of_pfs volume one f).systems
  all_after P own beside here =
      All-map P become volume.systems (All-from_has (λ s. P (become s)) volume.systems (λ s has. by s has (eqb s.number one) refl))
    where
      by : (s : PseudoFileSystem) → Contains volume.systems s → (test : Bool) → eqb s.number one ≡ test → P (if test then f s else s)
      by s has true same =
          let number : s.number ≡ one = eqb-true s.number one same in
          let there : system_of volume s.number ≡ Some s =
          All-contains (λ (x : PseudoFileSystem). system_of volume x.number ≡ Some x) volume.systems s own has in
          here s has number (subst (λ (n : ℕ). system_of volume n ≡ Some s) number there)
      by s has false other = beside s has (grind (arith, nat_tests, other))

  -- each is what is found under its number
  pub own_after : All (λ s. system_of volume s.number ≡ Some s) volume.systems
      → All (λ s. system_of (of_pfs volume one f) s.number ≡ Some s) (of_pfs volume one f).systems
  own_after own =
      all_after (λ s. system_of (of_pfs volume one f) s.number ≡ Some s) own
      (λ s has differ.
      found_beside s.number differ
      ∙ All-contains (λ (x : PseudoFileSystem). system_of volume x.number ≡ Some x) volume.systems s own has)
      (λ s has number is.
      subst (λ (n : ℕ). system_of (of_pfs volume one f) n ≡ Some (f s)) (sym (keeps s ∙ number)) (found_here ∙ ap (option_map f) is))

-- where there is no such PFS nothing changes
none_changed : (one : ℕ) (f : PseudoFileSystem → PseudoFileSystem) (systems : List PseudoFileSystem) → found_in systems one ≡ None
    → changed_in one f systems ≡ systems
none_changed one f [] none = refl
none_changed one f (s ∷ ss) none = by (eqb s.number one) refl (none_changed one f ss) where
  by : (test : Bool) → eqb s.number one ≡ test → (found_in ss one ≡ None → changed_in one f ss ≡ ss) → changed_in one f (s ∷ ss) ≡ s ∷ ss
  by true is rest = absurd (let some : Some s ≡ None = rw is at none in cc)
  by false is rest =
      let later : found_in ss one ≡ None = rw is at none in
      rw is (ap (λ (more : List PseudoFileSystem). s ∷ more) (rest later))

pub of_none : (volume : Volume) (one : ℕ) (f : PseudoFileSystem → PseudoFileSystem) → system_of volume one ≡ None → of_pfs volume one f ≡ volume
of_none volume one f none =
    ap (λ (systems : List PseudoFileSystem). with_systems systems) (none_changed one f volume.systems none)
  where
    with_systems : List PseudoFileSystem → Volume
    with_systems systems = record volume { systems = systems }

-- one that is no call for a PFS adds none
none_added : (call : Call) (command : Command) → adds_pfs command ≡ false → (elim command as (λ c. Volume) [
  | PfsMaster path shared ↦ with_system (versioned call) (new_master (new_pfs call.volume) shared ((own_id call, root_tree) ∷ []))
  | PfsSlave path shared ↦ with_system (versioned call) (new_slave (new_pfs call.volume) shared)
  | other ↦ versioned call
]) ≡ versioned call
none_added call (PfsMaster path shared) adds = absurd (cc)
none_added call (PfsSlave path shared) adds = absurd (cc)
none_added call other adds = refl

-- the one that a call adds
abbrev pub new_one : NewSystem → ℕ → ℕ → ℕ → PseudoFileSystem
new_one Master number shared i = new_master number shared ((i, root_tree) ∷ [])
new_one Slave number shared i = new_slave number shared

one_added : (call : Call) (new : NewSystem) (path : List ℕ) (shared : ℕ) (command : Command) → command ≡ system_command new path shared
    → (elim command as (λ c. Volume) [
      | PfsMaster path shared ↦ with_system (versioned call) (new_master (new_pfs call.volume) shared ((own_id call, root_tree) ∷ []))
      | PfsSlave path shared ↦ with_system (versioned call) (new_slave (new_pfs call.volume) shared)
      | other ↦ versioned call
    ]) ≡ with_system (versioned call) (new_one new (new_pfs call.volume) shared (own_id call))
one_added call Master path shared command is = rw is refl
one_added call Slave path shared command is = rw is refl

-- the new tree
abbrev pub new_tree : Call → FileTree
new_tree call = changed call (call.view (changed_pfs call) Now)

-- a call that adds no PFS gives the one that it changes a version more
pub changed_one : (call : Call) → adds_pfs call.command ≡ false
    → change call ≡ of_pfs call.volume (changed_pfs call) (add_version (own_id call) (new_tree call))
changed_one call adds = none_added call call.command adds

-- one that adds a PFS does so beside
pub changed_two : (call : Call) (new : NewSystem) (path : List ℕ) (shared : ℕ) → call.command ≡ system_command new path shared
    → change call ≡ with_system (of_pfs call.volume (changed_pfs call) (add_version (own_id call) (new_tree call)))
    (new_one new (new_pfs call.volume) shared (own_id call))
changed_two call new path shared is = one_added call new path shared call.command is
