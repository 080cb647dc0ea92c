-- What a tree call makes of the versions of each PFS.
use Rattle.std.proofs.Common.{◌≡◌, ◌≢◌, ℕ, false, List, [], ◌∷◌, ◌++◌, refl, ◌∙◌, ap, sym, arith, eqb}
use Rattle.std.specs.Prelude.{Option, Some, None}
use Rattle.std.specs.Option.{option_map_or}
use Rattle.std.proofs.lemmas.Bool.Decides.{nat_tests}
use Rattle.hm_model.specs.declared.command.Command.{Command}
use Rattle.hm_model.specs.declared.command.Command.TheVariants.{PfsMaster, PfsSlave}
use Rattle.hm_model.specs.Call.{Call, own_id}
use Rattle.hm_model.specs.Change.{change, changed, changed_pfs, new_slave, with_system}
use Rattle.hm_model.specs.Due.{new_pfs}
use Rattle.hm_model.specs.Laws.{adds_pfs, versions_of}
use Rattle.hm_types.specs.Tree.{FileTree, root_tree}
use Rattle.hm_model.specs.View.{Now}
use Rattle.hm_model.specs.Volume.{PseudoFileSystem, Volume, add_version, new_master, system_of, with_version}
use Rattle.hm_model.proofs.GrowthLemmas.{Grows, Grows-changed, Grows-pushed, found-other, found-pushed, found_in}

-- the new PFS of a call, by its command: none, or one whose versions begin at the call's id
pub new_cases : (P : Volume → Type 0) (call : Call) (volume : Volume) (command : Command) → P volume →
    ((shared : ℕ) → P (with_system volume (new_master (new_pfs call.volume) shared ((own_id call, root_tree) ∷ [])))) →
    ((shared : ℕ) → P (with_system volume (new_slave (new_pfs call.volume) shared))) →
    P (elim command [
      | PfsMaster path shared ↦ with_system volume (new_master (new_pfs call.volume) shared ((own_id call, root_tree) ∷ []))
      | PfsSlave path shared ↦ with_system volume (new_slave (new_pfs call.volume) shared)
      | other ↦ volume
    ])
new_cases P call volume (PfsMaster path shared) same master slave = master shared
new_cases P call volume (PfsSlave path shared) same master slave = slave shared
new_cases P call volume other same master slave = same

-- the volume with the version of a call, before a new PFS is added
abbrev pub versioned : Call → Volume
versioned call = with_version call.volume (changed_pfs call) (own_id call) (changed call (call.view (changed_pfs call) Now))

-- a tree call lets the versions of each PFS grow
pub Grows-change : (call : Call) (pfs : ℕ) → Grows (own_id call) (versions_of call.volume pfs) (versions_of (change call) pfs)
Grows-change call pfs =
    let tree : FileTree = changed call (call.view (changed_pfs call) Now) in
    let once : Grows (own_id call) (versions_of call.volume pfs) (versions_of (versioned call) pfs) =
    Grows-changed (own_id call) pfs (changed_pfs call) (add_version (own_id call) tree) call.volume.systems (λ s. refl)
    (λ s. record { more = (own_id call, tree) ∷ []; grown = refl; begin = (refl, tt) }) in
    new_cases (λ (v : Volume). Grows (own_id call) (versions_of call.volume pfs) (versions_of v pfs)) call (versioned call) call.command once
    (λ shared. Grows-pushed (own_id call) pfs (versions_of call.volume pfs) (versioned call).systems
    (new_master (new_pfs call.volume) shared ((own_id call, root_tree) ∷ [])) (refl, tt) once)
    (λ shared. Grows-pushed (own_id call) pfs (versions_of call.volume pfs) (versioned call).systems (new_slave (new_pfs call.volume) shared) tt once)

-- one more PFS is not found under another number
found-beside : (systems : List PseudoFileSystem) (new : PseudoFileSystem) (pfs : ℕ) → pfs ≢ new.number →
    found_in (systems ++ new ∷ []) pfs ≡ found_in systems pfs
found-beside systems new pfs differ =
    let no : eqb new.number pfs ≡ false = grind (arith, nat_tests, differ) in
    found-pushed systems new pfs ∙ rw no (by (found_in systems pfs))
  where
    by : (found : Option PseudoFileSystem) → option_map_or (λ (s : PseudoFileSystem). Some s) found None ≡ found
    by None = refl
    by (Some s) = refl

-- a tree call leaves the other PFS, but for a new one
pub found-change : (call : Call) (pfs : ℕ) → pfs ≢ changed_pfs call → pfs ≢ new_pfs call.volume → system_of (change call) pfs ≡ system_of call.volume pfs
found-change call pfs differ old =
    let tree : FileTree = changed call (call.view (changed_pfs call) Now) in
    let once : system_of (versioned call) pfs ≡ system_of call.volume pfs =
    found-other pfs (changed_pfs call) (add_version (own_id call) tree) call.volume.systems (λ s. refl) (λ same. differ (sym same)) in
    new_cases (λ (v : Volume). system_of v pfs ≡ system_of call.volume pfs) call (versioned call) call.command once
    (λ shared. found-beside (versioned call).systems (new_master (new_pfs call.volume) shared ((own_id call, root_tree) ∷ [])) pfs old ∙ once)
    (λ shared. found-beside (versioned call).systems (new_slave (new_pfs call.volume) shared) pfs old ∙ once)

-- a command that makes no PFS adds none
none_new : (call : Call) (volume : Volume) (command : Command) → adds_pfs command ≡ false →
    (elim command [
      | PfsMaster path shared ↦ with_system volume (new_master (new_pfs call.volume) shared ((own_id call, root_tree) ∷ []))
      | PfsSlave path shared ↦ with_system volume (new_slave (new_pfs call.volume) shared)
      | other ↦ volume
    ]) ≡ volume
none_new call volume (PfsMaster path shared) adds = absurd (cc)
none_new call volume (PfsSlave path shared) adds = absurd (cc)
none_new call volume other adds = refl

pub found-unadded : (call : Call) (pfs : ℕ) → pfs ≢ changed_pfs call → adds_pfs call.command ≡ false → system_of (change call) pfs ≡ system_of call.volume pfs
found-unadded call pfs differ adds =
    let tree : FileTree = changed call (call.view (changed_pfs call) Now) in
    ap (λ (v : Volume). system_of v pfs) (none_new call (versioned call) call.command adds)
    ∙ found-other pfs (changed_pfs call) (add_version (own_id call) tree) call.volume.systems (λ s. refl) (λ same. differ (sym same))
