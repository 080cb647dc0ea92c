-- The numbers of pseudo file systems that are used stay so.
use Rattle.std.proofs.Common.{◌≡◌, ℕ, ◌+◌, ◌<◌, Bool, true, false, List, [], ◌∷◌, ◌++◌, refl, sym, ap, subst, inl, inr, arith}
use Rattle.std.specs.Prelude.{Option, None, Some, if◌then◌else◌}
use Rattle.std.specs.Option.{option_map_or}
use Rattle.std.proofs.lemmas.Bool.{cases_lt}
use Rattle.hm_types.specs.declared.id.Id.{Id}
use Rattle.hm_types.specs.declared.id.Pfs.{Pfs}
use Rattle.hm_model.specs.After.{Event, OpenCall, State, accepted_effect, after_event, after_pass, call_of, effect, end_effect, end_effect_of}
use Rattle.hm_model.specs.After.{end_of_pass, end_of_upgrade, end_of_write, fed_from, given_in, no_hash, nothing_merged, of_pfs, on_volume}
use Rattle.hm_model.specs.After.{opened_with, opening_state, origin_of, present_only, retaining, stream_origin, next_stream, upgraded, with_origin}
use Rattle.hm_model.specs.Call.{Call, first_site, own_id, second_site}
use Rattle.hm_model.specs.Change.{change, changed, changed_pfs, new_slave}
use Rattle.hm_model.specs.Cut.{pruned}
use Rattle.hm_model.specs.Due.{is_tree_call, kept_ids, new_pfs}
use Rattle.hm_model.specs.Laws.{adds_pfs}
use Rattle.hm_model.specs.Legal.{Lands, MayFollow, Setting, call_after, state_after}
use Rattle.hm_model.specs.Reply.{is_refusal, passed_ids}
use Rattle.hm_model.specs.View.{Now}
use Rattle.hm_model.specs.Volume.{Local, PseudoFileSystem, Volume, add_version, new_master}
use Rattle.hm_model.specs.declared.command.Command.{Command}
use Rattle.hm_model.specs.declared.command.Command.TheVariants.{MirrorCopy, MirrorWrite, PfsMaster, PfsSlave, PfsUpgrade}
use Rattle.hm_model.specs.declared.reply.Reply.{Reply}
use Rattle.hm_model.specs.declared.reply.Reply.TheVariants.{Finished, MadePfs}
use Rattle.hm_types.specs.Tree.{root_tree}
use Rattle.hm_model.proofs.ChangeLemmas.{new_cases, versioned}
use Rattle.hm_model.proofs.EffectLemmas.{accepted_cases, effect_cases}
use Rattle.hm_model.proofs.EventLemmas.{after_events-push}
use Rattle.hm_model.proofs.GrowthLemmas.{KeepsNumber}
use Rattle.hm_model.proofs.MadeLemmas.{made_master, made_slave}
use Rattle.hm_model.proofs.NewPfsLemmas.{still_found}
use Rattle.hm_model.proofs.NumberLemmas.{least_unused-is, numbers_in, used_some}
use Rattle.hm_calls.specs.Changes.{HasSystem}
use Rattle.hm_step.specs.Next.{UsedBelow}
use Rattle.hm_step.proofs.CutLemmas.{present_number}
use Rattle.hm_step.proofs.SystemLemmas.{still_there}

still_changed : (volume : Volume) (pfs other : ℕ) (f : PseudoFileSystem → PseudoFileSystem) → KeepsNumber f → HasSystem volume pfs
    → HasSystem (of_pfs volume other f) pfs
still_changed volume pfs other f keeps (s, is) = still_there volume other f keeps pfs s is

-- after a tree call
still_tree : (call : Call) (pfs : ℕ) → HasSystem call.volume pfs → HasSystem (change call) pfs
still_tree call pfs has =
    let once : HasSystem (versioned call) pfs =
    still_changed call.volume pfs (changed_pfs call) (add_version (own_id call) (changed call (call.view (changed_pfs call) Now))) (λ s. refl) has in
    new_cases (λ (v : Volume). HasSystem v pfs) call (versioned call) call.command once
    (λ shared. (once.0, still_found (versioned call).systems (new_master (new_pfs call.volume) shared ((own_id call, root_tree) ∷ [])) once.0 pfs once.1))
    (λ shared. (once.0, still_found (versioned call).systems (new_slave (new_pfs call.volume) shared) once.0 pfs once.1))

-- after each accepted call
still_accepted : (state : State) (event : Event) (pfs : ℕ) → HasSystem state.volume pfs
    → HasSystem (accepted_effect state (call_of no_hash state event)).volume pfs
still_accepted state event pfs has =
    let call : Call = call_of no_hash state event in
    let a : ℕ = (first_site call).at.pfs in
    let b : ℕ = (second_site call).at.pfs in
    accepted_cases (λ (s : State). HasSystem s.volume pfs) state call call.command
    (still_changed state.volume pfs a (λ s. retaining (pruned s.retention (kept_ids call)) s) (λ s. refl) has)
    (still_changed state.volume pfs a (present_only (own_id call)) (present_number (own_id call)) has)
    (λ other. has)
    (still_changed state.volume pfs a (with_origin (fed_from (origin_of state.volume a) (stream_origin (next_stream state.streams)))) (λ s. refl) has)
    (still_changed state.volume pfs b (with_origin (fed_from (origin_of state.volume b) (Local a))) (λ s. refl) has)
    (by (is_tree_call call.command))
  where
    by : (test : Bool) → HasSystem (if test then on_volume state (change (call_of no_hash state event)) else state).volume pfs
    by true = still_tree (call_of no_hash state event) pfs has
    by false = has

-- after each ending
still_passed : (volume : Volume) (o : OpenCall) (reply : Reply) (pfs : ℕ) → HasSystem volume pfs → HasSystem (end_of_pass volume o reply) pfs
still_passed volume o reply pfs has = by (passed_ids reply) where
  by : (ids : Option (Id × Id))
      → HasSystem (option_map_or (λ (i : Id × Id). of_pfs volume o.pfs (after_pass (given_in volume o) i.0.0 i.1.0)) ids volume) pfs
  by None = has
  by (Some ids) = still_changed volume pfs o.pfs (after_pass (given_in volume o) ids.0.0 ids.1.0) (λ s. refl) has

still_written : (volume : Volume) (o : OpenCall) (reply : Reply) (pfs : ℕ) → HasSystem volume pfs → HasSystem (end_of_write volume o reply) pfs
still_written volume o reply pfs has = by (nothing_merged reply) where
  by : (test : Bool) → HasSystem (if test then of_pfs volume o.pfs (with_origin o.origin) else end_of_pass volume o reply) pfs
  by true = still_changed volume pfs o.pfs (with_origin o.origin) (λ s. refl) has
  by false = still_passed volume o reply pfs has

still_upgraded : (volume : Volume) (o : OpenCall) (reply : Reply) (pfs : ℕ) → HasSystem volume pfs → HasSystem (end_of_upgrade volume o reply) pfs
still_upgraded volume o Finished pfs has = still_changed volume pfs o.pfs upgraded (λ s. refl) has
still_upgraded volume o other pfs has = has

still_ended : (volume : Volume) (reply : Reply) (o : OpenCall) (pfs : ℕ) (command : Command) → HasSystem volume pfs
    → HasSystem (end_effect_of volume reply o command) pfs
still_ended volume reply o pfs (MirrorCopy master slave limit) has = still_passed volume o reply pfs has
still_ended volume reply o pfs (MirrorWrite path) has = still_written volume o reply pfs has
still_ended volume reply o pfs (PfsUpgrade path) has = still_upgraded volume o reply pfs has
still_ended volume reply o pfs other has = has

-- after each event
still_after : (state : State) (event : Event) (pfs : ℕ) → HasSystem state.volume pfs → HasSystem (after_event state event).volume pfs
still_after state event pfs has =
    let effect_has : HasSystem (effect state event).volume pfs = effect_cases (λ (s : State). HasSystem s.volume pfs) state event event.entry.call has
    (λ opening. by (opened_with opening state.opened)) (still_accepted state event pfs has) in
    (effect_has.0, effect_has.1)
  where
    by : (found : Option OpenCall) → HasSystem (option_map_or (end_effect state.volume event.entry.reply) found state.volume) pfs
    by None = has
    by (Some o) = still_ended state.volume event.entry.reply o pfs o.command has

module _ (run : Setting) (before : List Event) (event : Event) where
  state_is : state_after run (before ++ event ∷ []) ≡ after_event (state_after run before) event
  state_is = after_events-push (opening_state run.opening run.foreigners) before event

  pub stay_used : (numbers : ℕ) → UsedBelow numbers (state_after run before).volume → UsedBelow numbers (state_after run (before ++ event ∷ [])).volume
  stay_used numbers used n less =
      subst (λ (s : State). HasSystem s.volume n) (sym state_is) (still_after (state_after run before) event n (used n less))

  -- ---- where one was made

  abbrev volume : Volume
  volume = (state_after run before).volume

  below_new : (n : ℕ) → n < new_pfs volume → HasSystem volume n
  below_new n less = used_some volume.systems n ((least_unused-is (numbers_in volume.systems)).1 n less)

  new_there : (command : Command) → adds_pfs command ≡ true → event.entry.call ≡ command → is_refusal event.entry.reply ≡ false
      → HasSystem (after_event (state_after run before) event).volume (new_pfs volume)
  new_there (PfsMaster path shared) adds is accepts =
      (_, made_master (state_after run before) event path shared (record { call = is; accepted = accepts }))
  new_there (PfsSlave path shared) adds is accepts =
      (_, made_slave (state_after run before) event path shared (record { call = is; accepted = accepts }))
  new_there other adds is accepts = absurd (cc)

  pub made_used : (number : Pfs) → adds_pfs event.entry.call ≡ true → event.entry.reply ≡ MadePfs number → MayFollow run before event
      → UsedBelow (number.0 + 1) (state_after run (before ++ event ∷ [])).volume
  made_used number adds is follows n less = subst (λ (s : State). HasSystem s.volume n) (sym state_is) (elim (cases_lt n (new_pfs volume)) [
    | inl below ↦ still_after (state_after run before) event n (below_new n below)
    | inr not ↦
        let here : n ≡ new_pfs volume = omega (arith, less, not, number_is) in
        subst (HasSystem (after_event (state_after run before) event).volume) (sym here) (new_there event.entry.call adds refl accepts)
  ]) where
    accepts : is_refusal event.entry.reply ≡ false
    accepts = ap is_refusal is

    number_is : number.0 ≡ new_pfs volume
    number_is = (subst (λ (r : Reply). Lands (call_after run before event) r) is (follows.lands accepts)).named
