-- That a master's last interval has an open end.
use Rattle.std.proofs.Common.{◌≡◌, ℕ, ◌+◌, ◌-◌, ◌<◌, ◌≤◌, ◌^◌, true, false, List, [], ◌∷◌, ◌++◌, filter, refl, ◌∙◌, ap, sym, subst, inl, inr, arith}
use Rattle.std.proofs.Common.{append_assoc}
use Rattle.std.proofs.lemmas.List.{append-nil}
use Rattle.std.proofs.lemmas.Bool.Decides.{nat_tests}
use Rattle.std.specs.Prelude.{Bool, Option, Some, None, if◌then◌else◌}
use Rattle.std.specs.Bool.{nat_le}
use Rattle.std.specs.Option.{option_map_or}
use Rattle.hm_types.specs.declared.text.Text.{Text}
use Rattle.hm_types.specs.Intervals.{Keeps, open_end}
use Rattle.hm_retain.specs.Intervals.{RiseFrom}
use Rattle.hm_model.specs.declared.command.Command.TheVariants.{PfsMaster}
use Rattle.hm_model.specs.After.{Event, State, accepted_effect, after_event, call_of, effect, fed_from, next_stream, no_hash, of_pfs, on_volume}
use Rattle.hm_model.specs.After.{opening_state, origin_of, present_only, retaining, stream_origin, with_origin}
use Rattle.hm_model.specs.Call.{Call, call_shown, first_site, own_id, second_site, site_tree}
use Rattle.hm_model.specs.Caused.{known_at}
use Rattle.hm_model.specs.Change.{change, changed, changed_pfs, new_slave}
use Rattle.hm_model.specs.Cut.{cut, greatest, pruned, single, snapshot_ids, within}
use Rattle.hm_model.specs.Due.{is_tree_call, kept_ids, new_pfs}
use Rattle.hm_model.specs.Laws.{IsMasterFrom, IsOpenEnded, IsSteadyMaster, IsUnfed, Makes, retention_of}
use Rattle.hm_model.specs.Legal.{IsLegal, MayFollow, Setting, state_after}
use Rattle.hm_types.specs.Tree.{FileTree, root_tree}
use Rattle.hm_model.specs.View.{Now}
use Rattle.hm_model.specs.Volume.{Local, Master, PseudoFileSystem, Role, Slave, Volume, add_version, new_master, system_of}
use Rattle.hm_model.proofs.ChangeLemmas.{new_cases, versioned}
use Rattle.hm_model.proofs.EffectLemmas.{accepted_cases, by_role, effect_cases, ended_system}
use Rattle.hm_model.proofs.EventLemmas.{after_events-push}
use Rattle.hm_model.proofs.FollowLemmas.{retention_found}
use Rattle.hm_model.proofs.GrowthLemmas.{KeepsNumber, found-changed, found-other, same_or_not}
use Rattle.hm_model.proofs.IntervalLemmas.{Keeps-append, Keeps-maximal, Keeps-within}
use Rattle.hm_model.proofs.MadeLemmas.{last_known, made_master, state_pushed}
use Rattle.hm_model.proofs.NewPfsLemmas.{still_found}
use Rattle.hm_model.proofs.RetentionLemmas.{IsIntervals-cut}
use Rattle.hm_model.proofs.TwinHistoryLemmas.{master_later}

-- the interval that keeps the greatest number is the last, and ends there
last_open : (least : ℕ) (list : List (ℕ × ℕ)) → RiseFrom least list → Keeps list open_end →
    (front : List (ℕ × ℕ)) × (last : ℕ × ℕ) × (list ≡ front ++ last ∷ []) × (last.1 ≡ open_end)
last_open least [] rise kept = absurd kept
last_open least (x ∷ []) rise (inl held) = ([], x, refl, omega (arith, held.1, rise.0.bounded))
last_open least (x ∷ []) rise (inr none) = absurd none
last_open least (x ∷ y ∷ ys) rise (inl held) = absurd (omega (arith, held.1, rise.1.0.above, rise.1.0.ordered, rise.1.0.bounded))
last_open least (x ∷ y ∷ ys) rise (inr kept) =
    let rest = last_open (x.1 + 2) (y ∷ ys) rise.1 kept in
    (x ∷ rest.0, rest.1, ap (λ (is : List (ℕ × ℕ)). x ∷ is) rest.2, rest.3)

pub last-open : (retention : List (ℕ × ℕ)) → IsOpenEnded retention →
    (front : List (ℕ × ℕ)) × (last : ℕ × ℕ) × (retention ≡ front ++ last ∷ []) × (last.1 ≡ open_end)
last-open retention endless = last_open 0 retention endless.intervals endless.kept

-- a cut from an id on leaves the open end
open_cut : (retention : List (ℕ × ℕ)) (ids : List ℕ) (from : ℕ) → from ≤ open_end → IsOpenEnded retention → IsOpenEnded (cut retention ids from)
open_cut retention ids from low endless = record {
  intervals = IsIntervals-cut retention ids from endless.intervals;
  kept = (Keeps-maximal (single retention ids ++ within from open_end retention) open_end).1
      ((Keeps-append (single retention ids) (within from open_end retention) open_end).1
      (inr ((Keeps-within from open_end retention open_end).1 (endless.kept, low, omega arith))));
}

-- no id that a prune keeps is above the shown one
greatest_to : (shown : ℕ) (ids : List ℕ) → greatest (filter (λ id. nat_le id shown) ids) ≤ shown
greatest_to shown [] = omega arith
greatest_to shown (id ∷ ids) = by (nat_le id shown) refl (greatest_to shown ids)
  where
    by : (test : Bool) → nat_le id shown ≡ test → greatest (filter (λ i. nat_le i shown) ids) ≤ shown →
        greatest (filter (λ i. nat_le i shown) (id ∷ ids)) ≤ shown
    by true is rest = let low : id ≤ shown = grind (arith, nat_tests, is) in rw is (omega (arith, low, rest))
    by false is rest = rw is rest

-- a master whose retention has an open end
pub record HasOpen (volume : Volume) (pfs : ℕ) : Type 0 where
  pub system : PseudoFileSystem
  pub found : system_of volume pfs ≡ Some system
  pub role : system.role ≡ Master
  pub endless : IsOpenEnded system.retention

-- a change of a PFS that leaves it so
open_changed : (volume : Volume) (pfs other : ℕ) (f : PseudoFileSystem → PseudoFileSystem) → KeepsNumber f → (has : HasOpen volume pfs) →
    (other ≡ pfs → ((f has.system).role ≡ Master) × IsOpenEnded (f has.system).retention) → HasOpen (of_pfs volume other f) pfs
open_changed volume pfs other f keeps has gives = elim (same_or_not other pfs) [
  | inl same ↦
      let found : system_of (of_pfs volume other f) pfs ≡ Some (f has.system) =
      ap (λ (n : ℕ). system_of (of_pfs volume n f) pfs) same
      ∙ (found-changed pfs f volume.systems keeps ∙ ap (λ (x : Option PseudoFileSystem). option_map_or (λ (y : PseudoFileSystem). Some (f y)) x None)
      has.found) in
      record { system = f has.system; found = found; role = (gives same).0; endless = (gives same).1 }
  | inr differ ↦ record { system = has.system; found = found-other pfs other f volume.systems keeps differ ∙ has.found; role = has.role; endless = has.endless }
]

-- the ids that a prune of a master keeps
kept_low : (call : Call) (s : PseudoFileSystem) → system_of call.volume (first_site call).at.pfs ≡ Some s → s.role ≡ Master →
    greatest (kept_ids call) ≤ own_id call
kept_low call s found role =
    let ids : kept_ids call ≡ snapshot_ids (site_tree call (first_site call)) (first_site call).at.object (call_shown call s) =
    ap (λ (x : Option PseudoFileSystem). option_map_or
    (λ (t : PseudoFileSystem). snapshot_ids (site_tree call (first_site call)) (first_site call).at.object (call_shown call t)) x []) found in
    let shown : call_shown call s ≡ own_id call = ap (λ (r : Role). elim r [ Master ↦ own_id call | Slave ↦ s.sync_end ]) role in
    let low : greatest (kept_ids call) ≤ call_shown call s = rw ids (greatest_to (call_shown call s) _) in
    omega (arith, low, shown)

open_tree : (call : Call) (pfs : ℕ) → HasOpen call.volume pfs → HasOpen (change call) pfs
open_tree call pfs has =
    let tree : FileTree = changed call (call.view (changed_pfs call) Now) in
    let once : HasOpen (versioned call) pfs =
    open_changed call.volume pfs (changed_pfs call) (add_version (own_id call) tree) (λ s. refl) has (λ same. (has.role, has.endless)) in
    new_cases (λ (v : Volume). HasOpen v pfs) call (versioned call) call.command once
    (λ shared. record {
      system = once.system;
      found = still_found (versioned call).systems
          (new_master (new_pfs call.volume) shared ((own_id call, root_tree) ∷ [])) once.system pfs once.found;
      role = once.role;
      endless = once.endless;
    })
    (λ shared. record {
      system = once.system;
      found = still_found (versioned call).systems (new_slave (new_pfs call.volume) shared) once.system pfs
          once.found;
      role = once.role;
      endless = once.endless;
    })

-- over an accepted call
open_accepted : (state : State) (event : Event) (pfs : ℕ) → state.volume.last + 1 ≤ open_end → HasOpen state.volume pfs →
    HasOpen (accepted_effect state (call_of no_hash state event)).volume pfs
open_accepted state event pfs drawn has =
    let call : Call = call_of no_hash state event in
    let a : ℕ = (first_site call).at.pfs in
    let b : ℕ = (second_site call).at.pfs in
    accepted_cases (λ (s : State). HasOpen s.volume pfs) state call call.command
    (open_changed state.volume pfs a (λ s. retaining (pruned s.retention (kept_ids call)) s) (λ s. refl) has (λ same.
    let found : system_of state.volume a ≡ Some has.system = rw same has.found in
    let low : greatest (kept_ids call) ≤ own_id call = kept_low call has.system found has.role in
    (has.role, open_cut has.system.retention (kept_ids call) (greatest (kept_ids call)) (omega (arith, low, drawn)) has.endless)))
    (open_changed state.volume pfs a (present_only (own_id call))
    (λ s. by_role (λ (t : PseudoFileSystem). t.number ≡ s.number) (retaining (cut s.retention [] (own_id call)) s)
    (retaining (cut s.retention (s.sync_end ∷ []) (2 ^ 64)) s) s.role refl refl)
    has (λ same.
    let is : present_only (own_id call) has.system ≡ retaining (cut has.system.retention [] (own_id call)) has.system = rw has.role refl in
    subst (λ (t : PseudoFileSystem). (t.role ≡ Master) × IsOpenEnded t.retention) (sym is)
    (has.role, open_cut has.system.retention [] (own_id call) drawn has.endless)))
    (λ other. has)
    (open_changed state.volume pfs a (with_origin (fed_from (origin_of state.volume a) (stream_origin (next_stream state.streams)))) (λ s. refl) has
    (λ same. (has.role, has.endless)))
    (open_changed state.volume pfs b (with_origin (fed_from (origin_of state.volume b) (Local a))) (λ s. refl) has (λ same. (has.role, has.endless)))
    (by (is_tree_call call.command))
  where
    by : (test : Bool) → HasOpen (if test then on_volume state (change (call_of no_hash state event)) else state).volume pfs
    by true = open_tree (call_of no_hash state event) pfs has
    by false = has

-- over an event
open_event : (state : State) (event : Event) (pfs : ℕ) → IsUnfed state pfs → state.volume.last + 1 ≤ open_end → HasOpen state.volume pfs →
    HasOpen (after_event state event).volume pfs
open_event state event pfs unfed drawn has =
    let whole : HasOpen (effect state event).volume pfs = effect_cases (λ (s : State). HasOpen s.volume pfs) state event event.entry.call has
    (λ opening. record {
      system = has.system;
      found = ended_system state opening event.entry.reply pfs unfed ∙ has.found;
      role = has.role;
      endless =
          has.endless;
    })
    (open_accepted state event pfs drawn has) in
    record { system = whole.system; found = whole.found; role = whole.role; endless = whole.endless }

open_history : (run : Setting) (before es : List Event) (pfs : ℕ) → IsLegal run (before ++ es) → IsMasterFrom run before es pfs →
    HasOpen (state_after run before).volume pfs → HasOpen (state_after run (before ++ es)).volume pfs
open_history run before [] pfs legal master has = rw append-nil has
open_history run before (e ∷ es) pfs legal master has =
    let state : State = state_after run before in
    let follows : MayFollow run before e = legal before e es refl in
    let unfed : IsUnfed state pfs = (rw append-nil at (master [] (e ∷ es) refl)).unfed in
    let same = last_known (known_at run.opening.last run.start) (opening_state run.opening run.foreigners) before refl in
    let drawn : state.volume.last + 1 ≤ open_end = omega (arith, follows.caused.id, follows.caused.drawn, same) in
    let next : HasOpen (after_event state e).volume pfs = open_event state e pfs unfed drawn has in
    let pushed : state_after run (before ++ e ∷ []) ≡ after_event state e = after_events-push (opening_state run.opening run.foreigners) before e in
    let together : (before ++ e ∷ []) ++ es ≡ before ++ e ∷ es = append_assoc before (e ∷ []) es in
    rw (← together) (open_history run (before ++ e ∷ []) es pfs (rw together legal) (master_later run before e es pfs master)
    (subst (λ (s : State). HasOpen s.volume pfs) (sym pushed) next))

pub open-later : (run : Setting) (before rest : List Event) (pfs : ℕ) → IsLegal run (before ++ rest) → IsMasterFrom run before rest pfs →
    IsOpenEnded (retention_of (state_after run before).volume pfs) → IsOpenEnded (retention_of (state_after run (before ++ rest)).volume pfs)
open-later run before rest pfs legal master endless =
    let steady : IsSteadyMaster (state_after run before) pfs = rw append-nil at (master [] rest refl) in
    let has : HasOpen (state_after run before).volume pfs =
    record {
      system = steady.system;
      found = steady.found;
      role = steady.master;
      endless =
          rw (retention_found (state_after run before).volume pfs steady.system steady.found) at endless;
    } in
    let later : HasOpen (state_after run (before ++ rest)).volume pfs = open_history run before rest pfs legal master has in
    rw (retention_found (state_after run (before ++ rest)).volume pfs later.system later.found) later.endless

pub open-made : (run : Setting) (before : List Event) (event : Event) (path : Text) (shared : ℕ) → Makes event (PfsMaster path shared) →
    IsOpenEnded (retention_of (state_after run (before ++ event ∷ [])).volume (new_pfs (state_after run before).volume))
open-made run before event path shared makes =
    let state : State = state_after run before in
    let pfs : ℕ = new_pfs state.volume in
    let all : IsOpenEnded ((1, open_end) ∷ []) =
    record { intervals = (record { above = omega arith; ordered = omega arith; bounded = omega arith }, tt); kept = inl (omega arith, omega arith) } in
    let found : retention_of (after_event state event).volume pfs ≡ (1, open_end) ∷ [] =
    retention_found (after_event state event).volume pfs (new_master pfs shared ((state.volume.last + 1, root_tree) ∷ []))
    (made_master state event path shared makes) in
    subst (λ (s : State). IsOpenEnded (retention_of s.volume pfs)) (sym (state_pushed run before event)) (rw found all)
