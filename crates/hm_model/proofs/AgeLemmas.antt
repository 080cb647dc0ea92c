-- What accepted calls leave of each PFS: its trees as of drawn ids stay, and it keeps no id more.
use Rattle.std.proofs.Common.{◌≡◌, ℕ, ◌≤◌, ◌^◌, true, false, List, [], ◌∷◌, ◌++◌, refl, ap, inl, inr, arith}
use Rattle.std.specs.Prelude.{◌⊎◌, Bool, Option, Some, None, if◌then◌else◌}
use Rattle.std.specs.Option.{option_map_or}
use Rattle.hm_types.specs.Intervals.{Keeps, open_end}
use Rattle.hm_model.specs.After.{State, accepted_effect, fed_from, next_stream, of_pfs, on_volume, origin_of, present_only, retaining, stream_origin}
use Rattle.hm_model.specs.After.{with_origin}
use Rattle.hm_model.specs.Call.{Call, first_site, own_id, second_site}
use Rattle.hm_model.specs.Change.{change, changed, changed_pfs, new_slave}
use Rattle.hm_model.specs.Cut.{cut, greatest, pruned, single, within}
use Rattle.hm_model.specs.Due.{is_tree_call, kept_ids, new_pfs}
use Rattle.hm_types.specs.Tree.{FileTree, no_tree, root_tree}
use Rattle.hm_model.specs.View.{Now}
use Rattle.hm_model.specs.Volume.{Origin, Nowhere, Local, PseudoFileSystem, Volume, add_version, as_of, new_master, system_of}
use Rattle.hm_model.proofs.ChangeLemmas.{new_cases, versioned}
use Rattle.hm_model.proofs.EffectLemmas.{accepted_cases, by_role}
use Rattle.hm_model.proofs.GrowthLemmas.{KeepsNumber, as_of-grown, changed_in, found-changed, found-other, found-pushed, found_in, same_or_not}
use Rattle.hm_model.proofs.IntervalLemmas.{Keeps-append, Keeps-maximal, Keeps-single, Keeps-within}

-- a PFS, and the same one after a call
pub record Ages (last : ℕ) (old new : PseudoFileSystem) : Type 0 where
  pub sync : new.sync_end ≡ old.sync_end
  pub role : new.role ≡ old.role
  pub keeps : (id : ℕ) → Keeps new.retention id → Keeps old.retention id
  pub trees : (id : ℕ) → id ≤ last → as_of id no_tree new.versions ≡ as_of id no_tree old.versions
  pub source : (new.origin ≡ old.origin) ⊎ ((fed : Origin) × (new.origin ≡ fed_from old.origin fed))

pub Ages-self : (last : ℕ) (s : PseudoFileSystem) → Ages last s s
Ages-self last s = record { sync = refl; role = refl; keeps = λ id kept. kept; trees = λ id by. refl; source = inl refl }

-- the same of a PFS that may be missing: it does not go away
abbrev pub AgesIn : ℕ → Option PseudoFileSystem → Option PseudoFileSystem → Type 0
AgesIn last None new = Unit {0}
AgesIn last (Some s) None = ⊥
AgesIn last (Some s) (Some t) = Ages last s t

pub AgesIn-self : (last : ℕ) (found : Option PseudoFileSystem) → AgesIn last found found
AgesIn-self last None = tt
AgesIn-self last (Some s) = Ages-self last s

-- a change of PFS
ages_changed : (last pfs other : ℕ) (f : PseudoFileSystem → PseudoFileSystem) (systems : List PseudoFileSystem) → KeepsNumber f →
    ((s : PseudoFileSystem) → found_in systems other ≡ Some s → Ages last s (f s)) →
    AgesIn last (found_in systems pfs) (found_in (changed_in other f systems) pfs)
ages_changed last pfs other f systems keeps ages = elim (same_or_not other pfs) [
  | inl same ↦ rw (← same, found-changed other f systems keeps) (by (found_in systems other) refl)
  | inr differ ↦ rw (found-other pfs other f systems keeps differ) (AgesIn-self last (found_in systems pfs))
]
  where
    by : (found : Option PseudoFileSystem) → found_in systems other ≡ found →
        AgesIn last found (option_map_or (λ (s : PseudoFileSystem). Some (f s)) found None)
    by None is = tt
    by (Some s) is = ages s is

-- one more PFS
ages_pushed : (last pfs : ℕ) (old : Option PseudoFileSystem) (systems : List PseudoFileSystem) (new : PseudoFileSystem) →
    AgesIn last old (found_in systems pfs) → AgesIn last old (found_in (systems ++ new ∷ []) pfs)
ages_pushed last pfs old systems new ages = rw (found-pushed systems new pfs) (by old (found_in systems pfs) ages)
  where
    by : (was : Option PseudoFileSystem) (found : Option PseudoFileSystem) → AgesIn last was found →
        AgesIn last was (option_map_or (λ (s : PseudoFileSystem). Some s) found (found_in (new ∷ []) pfs))
    by None found is = tt
    by (Some s) None is = absurd is
    by (Some s) (Some t) is = is

-- a tree call
pub ages_change : (call : Call) (pfs : ℕ) → AgesIn call.volume.last (system_of call.volume pfs) (system_of (change call) pfs)
ages_change call pfs =
    let last : ℕ = call.volume.last in
    let tree : FileTree = changed call (call.view (changed_pfs call) Now) in
    let once : AgesIn last (system_of call.volume pfs) (system_of (versioned call) pfs) =
    ages_changed last pfs (changed_pfs call) (add_version (own_id call) tree) call.volume.systems (λ s. refl)
    (λ s is. record {
      sync = refl;
      role = refl;
      keeps = λ id kept. kept;
      trees =
          λ id by. as_of-grown id (own_id call) no_tree s.versions ((own_id call, tree) ∷ []) (omega (arith, by)) (refl, tt);
      source = inl refl;
    }) in
    new_cases (λ (v : Volume). AgesIn last (system_of call.volume pfs) (system_of v pfs)) call (versioned call) call.command once
    (λ shared. ages_pushed last pfs (system_of call.volume pfs) (versioned call).systems
    (new_master (new_pfs call.volume) shared ((own_id call, root_tree) ∷ [])) once)
    (λ shared. ages_pushed last pfs (system_of call.volume pfs) (versioned call).systems (new_slave (new_pfs call.volume) shared) once)

-- a cut keeps no id more
cut_keeps : (retention : List (ℕ × ℕ)) (ids : List ℕ) (from id : ℕ) → Keeps (cut retention ids from) id → Keeps retention id
cut_keeps retention ids from id kept =
    elim ((Keeps-append (single retention ids) (within from open_end retention) id).0
    ((Keeps-maximal (single retention ids ++ within from open_end retention) id).0 kept)) [
      | inl listed ↦ ((Keeps-single retention ids id).0 listed).0
      | inr later ↦ ((Keeps-within from open_end retention id).0 later).0
    ]

ages_cut : (last : ℕ) (ids : List ℕ) (from : ℕ) (s : PseudoFileSystem) → Ages last s (retaining (cut s.retention ids from) s)
ages_cut last ids from s =
    record { sync = refl; role = refl; keeps = λ id kept. cut_keeps s.retention ids from id kept; trees = λ id by. refl; source = inl refl }

ages_present : (last id : ℕ) (s : PseudoFileSystem) → Ages last s (present_only id s)
ages_present last id s =
    by_role (λ (t : PseudoFileSystem). Ages last s t) (retaining (cut s.retention [] id) s) (retaining (cut s.retention (s.sync_end ∷ []) (2 ^ 64)) s) s.role
    (ages_cut last [] id s) (ages_cut last (s.sync_end ∷ []) (2 ^ 64) s)

-- a PFS that a source feeds from here on
ages_fed : (last pfs other : ℕ) (volume : Volume) (fed : Origin) →
    AgesIn last (system_of volume pfs) (system_of (of_pfs volume other (with_origin (fed_from (origin_of volume other) fed))) pfs)
ages_fed last pfs other volume fed =
    ages_changed last pfs other (with_origin (fed_from (origin_of volume other) fed)) volume.systems (λ s. refl)
    (λ s is. record {
      sync = refl;
      role = refl;
      keeps = λ id kept. kept;
      trees = λ id by. refl;
      source =
          inr (fed, ap (λ (found : Option PseudoFileSystem). fed_from (option_map_or (λ (t : PseudoFileSystem). t.origin) found Nowhere) fed) is);
    })

-- any accepted call
pub ages_accepted : (state : State) (call : Call) (pfs : ℕ) → call.volume ≡ state.volume →
    AgesIn state.volume.last (system_of state.volume pfs) (system_of (accepted_effect state call).volume pfs)
ages_accepted state call pfs same =
    let last : ℕ = state.volume.last in
    let a : ℕ = (first_site call).at.pfs in
    let b : ℕ = (second_site call).at.pfs in
    let before : Option PseudoFileSystem = system_of state.volume pfs in
    accepted_cases (λ (s : State). AgesIn last before (system_of s.volume pfs)) state call call.command
    (ages_changed last pfs a (λ s. retaining (pruned s.retention (kept_ids call)) s) state.volume.systems (λ s. refl)
    (λ s is. ages_cut last (kept_ids call) (greatest (kept_ids call)) s))
    (ages_changed last pfs a (present_only (own_id call)) state.volume.systems
    (λ s. by_role (λ (t : PseudoFileSystem). t.number ≡ s.number) (retaining (cut s.retention [] (own_id call)) s)
    (retaining (cut s.retention (s.sync_end ∷ []) (2 ^ 64)) s) s.role refl refl) (λ s is. ages_present last (own_id call) s))
    (λ other. AgesIn-self last before)
    (ages_fed last pfs a state.volume (stream_origin (next_stream state.streams)))
    (ages_fed last pfs b state.volume (Local a))
    (by (is_tree_call call.command))
  where
    by : (test : Bool) → AgesIn state.volume.last (system_of state.volume pfs) (system_of (if test then on_volume state (change call) else state).volume pfs)
    by true = rw (← same) (ages_change call pfs)
    by false = AgesIn-self state.volume.last (system_of state.volume pfs)
