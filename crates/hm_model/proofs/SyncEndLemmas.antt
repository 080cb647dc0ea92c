-- The sync end of a PFS over a legal history: it was drawn, and each pass that is open was opened since.
use Rattle.std.proofs.Common.{◌≡◌, ℕ, ◌+◌, ◌≤◌, ◌^◌, true, false, List, [], ◌∷◌, ◌++◌, filter, refl, ◌∙◌, ap, sym, subst, inl, inr, arith, eqb, append_assoc}
use Rattle.std.proofs.lemmas.List.{append-nil}
use Rattle.std.specs.Prelude.{Bool, Option, Some, None, if◌then◌else◌}
use Rattle.std.specs.List.{AllByRecursion}
use Rattle.std.specs.Option.{option_map_or}
use Rattle.hm_types.specs.declared.id.Id.{Id}
use Rattle.hm_model.specs.declared.reply.Reply.{Reply}
use Rattle.hm_model.specs.declared.reply.Reply.TheVariants.{Passed}
use Rattle.hm_model.specs.After.{Event, OpenCall, State, accepted_effect, after_event, after_pass, call_of, effect, end_effect, end_of_pass}
use Rattle.hm_model.specs.After.{end_of_upgrade, ended, fed_from, given_in, last_after, next_stream, no_hash, nothing_merged, of_pfs, on_volume}
use Rattle.hm_model.specs.After.{opened_with, opening_state, origin_of, present_only, retaining, stream_origin, upgraded, with_origin}
use Rattle.hm_model.specs.Call.{Call, first_site, own_id, second_site}
use Rattle.hm_model.specs.Caused.{IsPossible, Known, early_refusal, is_ending, known_after, known_after_entry, known_at, possible_for}
use Rattle.hm_model.specs.Change.{change, changed, changed_pfs, new_slave}
use Rattle.hm_model.specs.Cut.{cut, pruned}
use Rattle.hm_model.specs.Due.{is_pass, is_tree_call, kept_ids, new_pfs}
use Rattle.hm_model.specs.Legal.{IsLegal, MayFollow, Setting, state_after, sync_end_of}
use Rattle.hm_model.specs.Reply.{is_refusal}
use Rattle.hm_model.specs.View.{Now}
use Rattle.hm_model.specs.Volume.{Local, PseudoFileSystem, Volume, add_version, new_master}
use Rattle.hm_types.specs.Tree.{FileTree, root_tree}
use Rattle.hm_model.proofs.ChangeLemmas.{new_cases, versioned}
use Rattle.hm_model.proofs.EffectLemmas.{accepted_cases, by_role}
use Rattle.hm_model.proofs.EventLemmas.{after_events-push, known_after-push}
use Rattle.hm_model.proofs.GrowthLemmas.{KeepsNumber, changed_in, found-changed, found-other, found-pushed, found_in, same_or_not}
use Rattle.hm_model.proofs.KnownLemmas.{Agrees, Agrees-event, All-still, NoPass, OnePass, OnePass-still, accepted_alone, none_busy, none_still, opening_of}
use Rattle.hm_model.proofs.PassEndLemmas.{ending_is}
use Rattle.hm_model.proofs.RefusalLemmas.{not_ending}
use Rattle.hm_model.proofs.SteadyLemmas.{opened_at}
use Rattle.hm_model.proofs.TwinEndLemmas.{end_by, pass_by, upgrade_by}
use Rattle.hm_model.proofs.TwinHistoryLemmas.{no_pass_same}

-- the sync end of a PFS that is found, or of none
abbrev pub sync_in : Option PseudoFileSystem → ℕ
sync_in found = option_map_or (λ (s : PseudoFileSystem). s.sync_end) found 0

-- a change of PFS that leaves their sync ends
sync_changed : (pfs other : ℕ) (f : PseudoFileSystem → PseudoFileSystem) (systems : List PseudoFileSystem) →
    KeepsNumber f → ((s : PseudoFileSystem) → (f s).sync_end ≡ s.sync_end) →
    sync_in (found_in (changed_in other f systems) pfs) ≡ sync_in (found_in systems pfs)
sync_changed pfs other f systems keeps same = elim (same_or_not other pfs) [
  | inl is ↦ rw (is) (ap sync_in (found-changed pfs f systems keeps) ∙ by (found_in systems pfs))
  | inr differ ↦ ap sync_in (found-other pfs other f systems keeps differ)
]
  where
    by : (found : Option PseudoFileSystem) →
        sync_in (option_map_or (λ (s : PseudoFileSystem). Some (f s)) found None) ≡ sync_in found
    by None = refl
    by (Some s) = same s

-- one more PFS, which has none yet
sync_pushed : (pfs n : ℕ) (systems : List PseudoFileSystem) (new : PseudoFileSystem) → new.sync_end ≡ 0 →
    sync_in (found_in systems pfs) ≡ n → sync_in (found_in (systems ++ new ∷ []) pfs) ≡ n
sync_pushed pfs n systems new none is = ap sync_in (found-pushed systems new pfs) ∙ (by (found_in systems pfs) ∙ is)
  where
    fresh : (test : Bool) → sync_in (if test then Some new else None) ≡ 0
    fresh true = none
    fresh false = refl

    by : (found : Option PseudoFileSystem) →
        sync_in (option_map_or (λ (s : PseudoFileSystem). Some s) found (found_in (new ∷ []) pfs)) ≡ sync_in found
    by None = fresh (eqb new.number pfs)
    by (Some s) = refl

sync_change : (call : Call) (pfs : ℕ) → sync_end_of (change call) pfs ≡ sync_end_of call.volume pfs
sync_change call pfs =
    let n : ℕ = sync_end_of call.volume pfs in
    let tree : FileTree = changed call (call.view (changed_pfs call) Now) in
    let once : sync_end_of (versioned call) pfs ≡ n =
    sync_changed pfs (changed_pfs call) (add_version (own_id call) tree) call.volume.systems (λ s. refl) (λ s. refl) in
    new_cases (λ (v : Volume). sync_end_of v pfs ≡ n) call (versioned call) call.command once
    (λ shared. sync_pushed pfs n (versioned call).systems (new_master (new_pfs call.volume) shared ((own_id call, root_tree) ∷ [])) refl once)
    (λ shared. sync_pushed pfs n (versioned call).systems (new_slave (new_pfs call.volume) shared) refl once)

-- no accepted call changes one
sync_accepted : (state : State) (call : Call) (pfs : ℕ) → call.volume ≡ state.volume →
    sync_end_of (accepted_effect state call).volume pfs ≡ sync_end_of state.volume pfs
sync_accepted state call pfs same =
    let a : ℕ = (first_site call).at.pfs in
    let b : ℕ = (second_site call).at.pfs in
    accepted_cases (λ (s : State). sync_end_of s.volume pfs ≡ sync_end_of state.volume pfs) state call call.command
    (sync_changed pfs a (λ s. retaining (pruned s.retention (kept_ids call)) s) state.volume.systems (λ s. refl) (λ s. refl))
    (sync_changed pfs a (present_only (own_id call)) state.volume.systems (λ s. (present s).0) (λ s. (present s).1))
    (λ other. refl)
    (sync_changed pfs a (with_origin (fed_from (origin_of state.volume a) (stream_origin (next_stream state.streams))))
    state.volume.systems (λ s. refl) (λ s. refl))
    (sync_changed pfs b (with_origin (fed_from (origin_of state.volume b) (Local a))) state.volume.systems (λ s. refl) (λ s. refl))
    (by (is_tree_call call.command))
  where
    present : (s : PseudoFileSystem) →
        ((present_only (own_id call) s).number ≡ s.number) × ((present_only (own_id call) s).sync_end ≡ s.sync_end)
    present s =
        by_role (λ (t : PseudoFileSystem). (t.number ≡ s.number) × (t.sync_end ≡ s.sync_end))
        (retaining (cut s.retention [] (own_id call)) s) (retaining (cut s.retention (s.sync_end ∷ []) (2 ^ 64)) s)
        s.role (refl, refl) (refl, refl)

    by : (test : Bool) →
        sync_end_of (if test then on_volume state (change call) else state).volume pfs ≡ sync_end_of state.volume pfs
    by true = rw (← same) (sync_change call pfs)
    by false = refl

-- a change of a PFS whose sync end it lets be, or sets to one up to a bound
sync_bound : (pfs other bound : ℕ) (f : PseudoFileSystem → PseudoFileSystem) (systems : List PseudoFileSystem) →
    KeepsNumber f → sync_in (found_in systems pfs) ≤ bound →
    ((s : PseudoFileSystem) → s.sync_end ≤ bound → (f s).sync_end ≤ bound) →
    sync_in (found_in (changed_in other f systems) pfs) ≤ bound
sync_bound pfs other bound f systems keeps by_now each = elim (same_or_not other pfs) [
  | inl is ↦ rw (is, found-changed pfs f systems keeps) (by (found_in systems pfs) by_now)
  | inr differ ↦ rw (found-other pfs other f systems keeps differ) by_now
]
  where
    by : (found : Option PseudoFileSystem) → sync_in found ≤ bound →
        sync_in (option_map_or (λ (s : PseudoFileSystem). Some (f s)) found None) ≤ bound
    by None le = omega arith
    by (Some s) le = each s le

-- the end of a call leaves it, or sets it to the end id of a pass
sync_end_call : (volume : Volume) (reply : Reply) (o : OpenCall) (pfs bound : ℕ) → sync_end_of volume pfs ≤ bound →
    ((begin end : Id) → reply ≡ Passed begin end → end.0 ≤ bound) → sync_end_of (end_effect volume reply o) pfs ≤ bound
sync_end_call volume reply o pfs bound le ends =
    end_by (λ (v : Volume). sync_end_of v pfs ≤ bound) volume reply o o.command refl le
    (λ from into limit is. pass) (λ into is. write (nothing_merged reply)) (λ path is. upgrade)
  where
    pass : sync_end_of (end_of_pass volume o reply) pfs ≤ bound
    pass =
        pass_by (λ (v : Volume). sync_end_of v pfs ≤ bound) volume o reply le (λ begin end told.
        sync_bound pfs o.pfs bound (after_pass (given_in volume o) begin.0 end.0) volume.systems (λ s. refl) le
        (λ s before. ends begin end told))

    write : (test : Bool) →
        sync_end_of (if test then of_pfs volume o.pfs (with_origin o.origin) else end_of_pass volume o reply) pfs ≤ bound
    write true = sync_bound pfs o.pfs bound (with_origin o.origin) volume.systems (λ s. refl) le (λ s before. before)
    write false = pass

    upgrade : sync_end_of (end_of_upgrade volume o reply) pfs ≤ bound
    upgrade =
        upgrade_by (λ (v : Volume). sync_end_of v pfs ≤ bound) volume o reply le
        (sync_bound pfs o.pfs bound upgraded volume.systems (λ s. refl) le (λ s before. omega arith))

-- a pass was opened at this id or later
abbrev pub OpenedSince : ℕ → OpenCall → Type 0
OpenedSince id o = is_pass o.command ≡ true → id ≤ o.opening

none_since : (id : ℕ) (os : List OpenCall) → NoPass os → AllByRecursion (OpenedSince id) os
none_since id [] none = tt
none_since id (o ∷ os) none = (λ pass. absurd (let no : is_pass o.command ≡ false = none.0 in cc), none_since id os none.1)

-- The sync end of a PFS was drawn. At most one pass is open, and it was opened since.
pub record IsDrawn (last : ℕ) (state : State) (pfs : ℕ) : Type 0 where
  pub drawn : sync_end_of state.volume pfs ≤ last
  pub one : OnePass state.opened
  pub since : AllByRecursion (OpenedSince (sync_end_of state.volume pfs)) state.opened

-- over an accepted call
drawn_accepted : (state : State) (call : Call) (pfs : ℕ) → call.volume ≡ state.volume →
    (is_pass call.command ≡ true → NoPass state.opened) → IsDrawn state.volume.last state pfs →
    IsDrawn (state.volume.last + 1) (accepted_effect state call) pfs
drawn_accepted state call pfs same alone is =
    let after : State = accepted_effect state call in
    let sync : sync_end_of after.volume pfs ≡ sync_end_of state.volume pfs = sync_accepted state call pfs same in
    let own : own_id call ≡ state.volume.last + 1 = ap (λ (v : Volume). v.last + 1) same in
    elim (opened_at state call call.command refl) [
      | inl opened ↦ record {
        drawn = rw sync (omega (arith, is.drawn));
        one = rw opened is.one;
        since = rw (sync, opened) is.since;
      }
      | inr new ↦
          let head : OpenedSince (sync_end_of state.volume pfs) new.0 = λ pass. rw (new.4, own) (omega (arith, is.drawn)) in
          record {
            drawn = rw sync (omega (arith, is.drawn));
            one = rw new.1 (λ pass. alone (rw (← new.2) pass), is.one);
            since = rw (sync, new.1) (head, is.since);
          }
    ]

-- over an ending
drawn_ended : (state : State) (event : Event) (opening : Id) (pfs : ℕ) → event.entry.id.0 ≡ state.volume.last + 1 →
    IsDrawn state.volume.last state pfs →
    IsDrawn (last_after event.entry) (ended state opening.0 event.entry.reply) pfs
drawn_ended state event opening pfs id is = by (opened_with opening.0 state.opened) refl
  where
    now : ℕ
    now = last_after event.entry

    reply : Reply
    reply = event.entry.reply

    rest : List OpenCall
    rest = filter (λ (o : OpenCall). if eqb o.opening opening.0 then false else true) state.opened

    after : Volume → State
    after volume = record state { volume = volume; opened = rest }

    same : IsDrawn now (after state.volume) pfs
    same = record {
      drawn = omega (arith, is.drawn, id);
      one = OnePass-still opening.0 state.opened is.one;
      since = All-still (OpenedSince (sync_end_of state.volume pfs)) opening.0 state.opened is.since;
    }

    told : (begin end : Id) → reply ≡ Passed begin end → end.0 ≤ now
    told begin end passed = rw passed (omega arith)

    each : (o : OpenCall) → opened_with opening.0 state.opened ≡ Some o → (test : Bool) → is_pass o.command ≡ test →
        IsDrawn now (after (end_effect state.volume reply o)) pfs
    each o found true pass = record {
      drawn = sync_end_call state.volume reply o pfs now (omega (arith, is.drawn, id)) told;
      one = OnePass-still opening.0 state.opened is.one;
      since = none_since (sync_end_of (end_effect state.volume reply o) pfs) rest (none_still opening.0 state.opened o is.one found pass);
    }
    each o found false other =
        subst (λ (v : Volume). IsDrawn now (after v) pfs) (sym (no_pass_same state.volume reply o o.command other)) same

    by : (found : Option OpenCall) → opened_with opening.0 state.opened ≡ found →
        IsDrawn now (after (option_map_or (end_effect state.volume reply) found state.volume)) pfs
    by None none = same
    by (Some o) found = each o found (is_pass o.command) refl

-- over an event
pub drawn_event : (known : Known) (state : State) (event : Event) (numbers : List ℕ) (pfs : ℕ) → Agrees known state →
    event.entry.id.0 ≡ known.last + 1 → IsPossible (early_refusal known event) numbers event.entry.reply →
    IsDrawn state.volume.last state pfs → IsDrawn (last_after event.entry) (after_event state event) pfs
drawn_event known state event numbers pfs agrees id early is =
    let whole : IsDrawn (last_after event.entry) (effect state event) pfs = by (is_ending event.entry.call) refl in
    record { drawn = whole.drawn; one = whole.one; since = whole.since }
  where
    own : event.entry.id.0 ≡ state.volume.last + 1
    own = id ∙ ap (λ (n : ℕ). n + 1) agrees.last

    later : (last : ℕ) (s : State) → last ≤ last_after event.entry → IsDrawn last s pfs → IsDrawn (last_after event.entry) s pfs
    later last s le was = record { drawn = omega (arith, le, was.drawn); one = was.one; since = was.since }

    call : (test : Bool) → is_refusal event.entry.reply ≡ test →
        IsDrawn (last_after event.entry) (if test then state else accepted_effect state (call_of no_hash state event)) pfs
    call true refused = later state.volume.last state (omega (arith, own)) is
    call false accepts =
        later (state.volume.last + 1) (accepted_effect state (call_of no_hash state event)) (omega (arith, own))
        (drawn_accepted state (call_of no_hash state event) pfs refl
        (λ pass. none_busy state.opened (rw agrees.opened at (accepted_alone known event numbers early accepts pass))) is)

    by : (test : Bool) → is_ending event.entry.call ≡ test → IsDrawn (last_after event.entry) (effect state event) pfs
    by true ends =
        let named = opening_of event.entry.call ends in
        let goes : effect state event ≡ ended state named.0.0 event.entry.reply =
        ending_is (λ opening. ended state opening.0 event.entry.reply)
        (if is_refusal event.entry.reply then state else accepted_effect state (call_of no_hash state event)) event.entry.call named.0 named.1 in
        subst (λ (s : State). IsDrawn (last_after event.entry) s pfs) (sym goes) (drawn_ended state event named.0 pfs own is)
    by false other =
        let goes : effect state event ≡ (if is_refusal event.entry.reply then state else accepted_effect state (call_of no_hash state event)) =
        not_ending (λ opening. ended state opening.0 event.entry.reply)
        (if is_refusal event.entry.reply then state else accepted_effect state (call_of no_hash state event)) event.entry.call other in
        subst (λ (s : State). IsDrawn (last_after event.entry) s pfs) (sym goes) (call (is_refusal event.entry.reply) refl)

-- what holds after a beginning of a legal history
pub record DrawnAfter (run : Setting) (before : List Event) (pfs : ℕ) : Type 0 where
  pub agrees : Agrees (known_after (known_at run.opening.last run.start) before) (state_after run before)
  pub drawn : IsDrawn (state_after run before).volume.last (state_after run before) pfs

-- one event on
pub drawn_step : (run : Setting) (before : List Event) (e : Event) (pfs : ℕ) → MayFollow run before e →
    DrawnAfter run before pfs → DrawnAfter run (before ++ e ∷ []) pfs
drawn_step run before e pfs follows is =
    let known : Known = known_after (known_at run.opening.last run.start) before in
    let state : State = state_after run before in
    let next : IsDrawn (last_after e.entry) (after_event state e) pfs =
    drawn_event known state e (possible_for known e) pfs is.agrees follows.caused.id follows.caused.possible is.drawn in
    let agrees : Agrees (known_after_entry known e.entry) (after_event state e) = Agrees-event known state e is.agrees follows.caused.id in
    let pushed : state_after run (before ++ e ∷ []) ≡ after_event state e = after_events-push (opening_state run.opening run.foreigners) before e in
    let known_pushed : known_after (known_at run.opening.last run.start) (before ++ e ∷ []) ≡ known_after_entry known e.entry =
    known_after-push (known_at run.opening.last run.start) before e in
    record {
      agrees = rw (pushed, known_pushed) agrees;
      drawn = subst (λ (s : State). IsDrawn s.volume.last s pfs) (sym pushed) next;
    }

drawn_on : (run : Setting) (before es : List Event) (pfs : ℕ) → IsLegal run (before ++ es) → DrawnAfter run before pfs →
    DrawnAfter run (before ++ es) pfs
drawn_on run before [] pfs legal is = rw append-nil is
drawn_on run before (e ∷ es) pfs legal is =
    let together : (before ++ e ∷ []) ++ es ≡ before ++ e ∷ es = append_assoc before (e ∷ []) es in
    rw (← together) (drawn_on run (before ++ e ∷ []) es pfs (rw together legal) (drawn_step run before e pfs (legal before e es refl) is))

pub DrawnAfter-legal : (run : Setting) (events : List Event) (pfs : ℕ) → IsLegal run events →
    sync_end_of run.opening pfs ≤ run.opening.last → DrawnAfter run events pfs
DrawnAfter-legal run events pfs legal drawn =
    drawn_on run [] events pfs legal
    (record { agrees = record { last = refl; opened = refl }; drawn = record { drawn = drawn; one = tt; since = tt } })
