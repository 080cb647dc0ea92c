-- The trees that a slave has up to its sync end stay over every history.
use Rattle.std.proofs.Common.{◌≡◌, ℕ, ◌+◌, ◌≤◌, true, false, List, [], ◌∷◌, ◌++◌, filter, refl, ◌∙◌, ap, sym, subst, inl, inr, arith, eqb, append_assoc}
use Rattle.std.proofs.lemmas.List.{append-nil}
use Rattle.std.specs.Prelude.{◌⊎◌, Bool, ◌&&◌, Option, Some, None, if◌then◌else◌}
use Rattle.std.specs.List.{list_any}
use Rattle.std.specs.Option.{option_map_or}
use Rattle.hm_types.specs.declared.id.Id.{Id}
use Rattle.hm_types.specs.declared.text.Text.{Text}
use Rattle.hm_model.specs.declared.command.Command.{Command}
use Rattle.hm_model.specs.declared.command.Command.TheVariants.{End, MirrorCopy, MirrorWrite, PfsUpgrade}
use Rattle.hm_model.specs.declared.reply.Reply.{Reply}
use Rattle.hm_model.specs.declared.reply.Reply.TheVariants.{Passed}
use Rattle.hm_model.specs.After.{Event, OpenCall, State, accepted_effect, after_event, after_pass, call_of, effect, end_effect, end_of_pass}
use Rattle.hm_model.specs.After.{end_of_upgrade, end_of_write, ended, given_in, last_after, no_hash, nothing_merged, of_pfs, opened_with}
use Rattle.hm_model.specs.After.{opening_state, upgraded, with_origin}
use Rattle.hm_model.specs.Caused.{is_ending}
use Rattle.hm_model.specs.Due.{is_pass}
use Rattle.hm_model.specs.Laws.{IsSteadyMaster, IsUnfed, is_rewriter, merges, rewrites}
use Rattle.hm_model.specs.Legal.{IsLegal, IsPassEnd, IsPassed, MayFollow, Setting, state_after, sync_end_of}
use Rattle.hm_model.specs.Reply.{is_refusal}
use Rattle.hm_model.specs.Volume.{PseudoFileSystem, Role, Master, Slave, Volume, at, system_of}
use Rattle.hm_model.proofs.AgeLemmas.{AgesIn, ages_accepted}
use Rattle.hm_model.proofs.EventLemmas.{IsLegal-beginning, after_events-push}
use Rattle.hm_model.proofs.GrowthLemmas.{KeepsNumber, found-changed, found-other, same_or_not}
use Rattle.hm_model.proofs.KeptPastLemmas.{at-kept, effect-ending}
use Rattle.hm_model.proofs.KnownLemmas.{NoPass, none_still, opening_of}
use Rattle.hm_model.proofs.MasterLemmas.{at-event}
use Rattle.hm_model.proofs.PassEndLemmas.{passed_legal}
use Rattle.hm_model.proofs.RefusalLemmas.{not_ending}
use Rattle.hm_model.proofs.SteadyLemmas.{steady_event}
use Rattle.hm_model.proofs.SyncEndLemmas.{DrawnAfter, DrawnAfter-legal, IsDrawn, OpenedSince, drawn_step}
use Rattle.hm_model.proofs.TwinEndLemmas.{end_by, found_holds, pass_by, upgrade_by}
use Rattle.hm_model.proofs.TwinHistoryLemmas.{no_pass_same}
use Rattle.hm_model.proofs.TwinLemmas.{aged_some}

-- a PFS is there, and as long as it is a slave its sync end is not below an id
pub record IsUpTo (volume : Volume) (slave id : ℕ) : Type 0 where
  pub system : PseudoFileSystem
  pub found : system_of volume slave ≡ Some system
  pub up : system.role ≡ Slave → id ≤ system.sync_end

-- a change of one PFS
up_changed : (volume : Volume) (slave other id : ℕ) (s : PseudoFileSystem) (f : PseudoFileSystem → PseudoFileSystem) →
    KeepsNumber f → system_of volume slave ≡ Some s → id ≤ s.sync_end →
    (other ≡ slave → (f s).role ≡ Slave → id ≤ (f s).sync_end) → IsUpTo (of_pfs volume other f) slave id
up_changed volume slave other id s f keeps found up each = elim (same_or_not other slave) [
  | inl same ↦ record {
    system = f s;
    found = rw same (found-changed slave f volume.systems keeps
        ∙ ap (λ (x : Option PseudoFileSystem). option_map_or (λ (y : PseudoFileSystem). Some (f y)) x None) found);
    up = each same;
  }
  | inr differ ↦ record {
    system = s;
    found = found-other slave other f volume.systems keeps differ ∙ found;
    up = λ role. up;
  }
]

-- none of these calls rewrites a PFS, where none is a pass
rewrites_pass : (command : Command) → is_pass command ≡ false → rewrites command ≡ false
rewrites_pass (MirrorCopy master slave limit) none = absurd (cc)
rewrites_pass (MirrorWrite path) none = absurd (cc)
rewrites_pass (PfsUpgrade path) none = absurd (cc)
rewrites_pass command none = refl

and_false : (b : Bool) → (b && false) ≡ false
and_false true = refl
and_false false = refl

unfed_none : (pfs : ℕ) (os : List OpenCall) → NoPass os → list_any (is_rewriter pfs) os ≡ false
unfed_none pfs [] none = refl
unfed_none pfs (o ∷ os) none =
    rw (rewrites_pass o.command none.0, and_false (eqb o.pfs pfs)) (unfed_none pfs os none.1)

-- at the end of a call, where a pass that came to its end has ids that it may have
module _ (volume : Volume) (reply : Reply) (o : OpenCall) (ending slave : ℕ) (s : PseudoFileSystem)
    (passed : (begin end : Id) → reply ≡ Passed begin end → merges o.command ≡ true → IsPassed volume o ending begin.0 end.0)
    (found : system_of volume slave ≡ Some s) (since : is_pass o.command ≡ true → s.sync_end ≤ o.opening) where
  same : IsUpTo volume slave s.sync_end
  same = record { system = s; found = found; up = λ role. omega arith }

  end_copy : (from into : Text) (limit : Option ℕ) → o.command ≡ MirrorCopy from into limit → (begin end : Id) →
      reply ≡ Passed begin end → s.sync_end ≤ end.0
  end_copy from into limit is begin end told =
      let opened : s.sync_end ≤ o.opening = since (ap is_pass is) in
      let ends : IsPassEnd volume o ending end.0 = (passed begin end told (ap merges is)).ends in
      let kept = rw is at ends in
      let later : o.opening ≤ end.0 = kept.0.opened in
      omega (arith, opened, later)

  end_write : (into : Text) → o.command ≡ MirrorWrite into → o.pfs ≡ slave → (begin end : Id) →
      reply ≡ Passed begin end → s.sync_end ≤ end.0
  end_write into is here begin end told =
      let ends : IsPassEnd volume o ending end.0 = (passed begin end told (ap merges is)).ends in
      let by : sync_end_of volume o.pfs ≤ end.0 = (rw is at ends).1 in
      let from : sync_end_of volume o.pfs ≡ s.sync_end = rw (here, found) refl in
      omega (arith, from, by)

  pass : (o.pfs ≡ slave → (begin end : Id) → reply ≡ Passed begin end → s.sync_end ≤ end.0) →
      IsUpTo (end_of_pass volume o reply) slave s.sync_end
  pass ends =
      pass_by (λ (v : Volume). IsUpTo v slave s.sync_end) volume o reply same (λ begin end told.
      up_changed volume slave o.pfs s.sync_end s (after_pass (given_in volume o) begin.0 end.0) (λ x. refl) found (omega arith)
      (λ here role. ends here begin end told))

  write : (into : Text) → o.command ≡ MirrorWrite into → IsUpTo (end_of_write volume o reply) slave s.sync_end
  write into is = by (nothing_merged reply)
    where
      by : (test : Bool) →
          IsUpTo (if test then of_pfs volume o.pfs (with_origin o.origin) else end_of_pass volume o reply) slave s.sync_end
      by true = up_changed volume slave o.pfs s.sync_end s (with_origin o.origin) (λ x. refl) found (omega arith) (λ here role. omega arith)
      by false = pass (end_write into is)

  upgrade : IsUpTo (end_of_upgrade volume o reply) slave s.sync_end
  upgrade =
      upgrade_by (λ (v : Volume). IsUpTo v slave s.sync_end) volume o reply same
      (up_changed volume slave o.pfs s.sync_end s upgraded (λ x. refl) found (omega arith) (λ here role. absurd (cc)))

  pub up_end : IsUpTo (end_effect volume reply o) slave s.sync_end
  up_end =
      end_by (λ (v : Volume). IsUpTo v slave s.sync_end) volume reply o o.command refl same
      (λ from into limit is. pass (λ here. end_copy from into limit is)) write (λ path is. upgrade)

-- a slave whose sync end is not below an id, or what was one and is a master now
abbrev pub Holds : State → ℕ → ℕ → Type 0
Holds state slave id =
    ((s : PseudoFileSystem) × (system_of state.volume slave ≡ Some s) × (s.role ≡ Slave) × (id ≤ s.sync_end))
    ⊎ (IsSteadyMaster state slave × (id ≤ state.volume.last))

abbrev pub IsHeld : State → ℕ → ℕ → Type 0
IsHeld state slave id =
    ((s : PseudoFileSystem) × (system_of state.volume slave ≡ Some s) × (s.role ≡ Slave) × (id ≤ s.sync_end))
    ⊎ IsSteadyMaster state slave

by_system : (state : State) (slave id : ℕ) → IsUpTo state.volume slave id → IsUnfed state slave → IsHeld state slave id
by_system state slave id is unfed = by is.system.role refl
  where
    by : (role : Role) → is.system.role ≡ role → IsHeld state slave id
    by Master role = inr (record { system = is.system; found = is.found; master = role; unfed = unfed })
    by Slave role = inl (is.system, is.found, role, is.up role)

-- over the effect of an event
held_effect : (run : Setting) (before : List Event) (event : Event) (slave : ℕ) (s : PseudoFileSystem) →
    MayFollow run before event → IsDrawn (state_after run before).volume.last (state_after run before) slave →
    system_of (state_after run before).volume slave ≡ Some s → s.role ≡ Slave →
    IsHeld (effect (state_after run before) event) slave s.sync_end
held_effect run before event slave s follows drawn found role = by (is_ending event.entry.call) refl
  where
    state : State
    state = state_after run before

    sync : sync_end_of state.volume slave ≡ s.sync_end
    sync = ap (λ (x : Option PseudoFileSystem). option_map_or (λ (y : PseudoFileSystem). y.sync_end) x 0) found

    still : IsHeld state slave s.sync_end
    still = inl (s, found, role, omega arith)

    call : (test : Bool) → IsHeld (if test then state else accepted_effect state (call_of no_hash state event)) slave s.sync_end
    call true = still
    call false =
        let after : State = accepted_effect state (call_of no_hash state event) in
        let aged : AgesIn state.volume.last (Some s) (system_of after.volume slave) =
        rw found at (ages_accepted state (call_of no_hash state event) slave refl) in
        let u = aged_some state.volume.last s (system_of after.volume slave) aged in
        inl (u.0, u.1, u.2.role ∙ role, omega (arith, u.2.sync))

    ends : (opening : Id) → event.entry.call ≡ End opening → IsHeld (ended state opening.0 event.entry.reply) slave s.sync_end
    ends opening is = one (opened_with opening.0 state.opened) refl
      where
        rest : List OpenCall
        rest = filter (λ (o : OpenCall). if eqb o.opening opening.0 then false else true) state.opened

        after : Volume → State
        after volume = record state { volume = volume; opened = rest }

        passed : (o : OpenCall) → opened_with opening.0 state.opened ≡ Some o → (begin end : Id) →
            event.entry.reply ≡ Passed begin end → merges o.command ≡ true → IsPassed state.volume o event.entry.id.0 begin.0 end.0
        passed o named begin end told merging =
            passed_legal run before event o begin end follows
            (record { opening = opening; call = is; reply = told; found = named; pass = merging })

        each : (o : OpenCall) → opened_with opening.0 state.opened ≡ Some o → (test : Bool) → is_pass o.command ≡ test →
            IsHeld (after (end_effect state.volume event.entry.reply o)) slave s.sync_end
        each o named true pass =
            let opened : OpenedSince (sync_end_of state.volume slave) o =
            found_holds (OpenedSince (sync_end_of state.volume slave)) (λ (x : OpenCall). eqb x.opening opening.0) state.opened o named drawn.since in
            let since : s.sync_end ≤ o.opening = rw sync at (opened pass) in
            let none : NoPass rest = none_still opening.0 state.opened o drawn.one named pass in
            by_system (after (end_effect state.volume event.entry.reply o)) slave s.sync_end
            (up_end state.volume event.entry.reply o event.entry.id.0 slave s (passed o named) found (λ also. since))
            (unfed_none slave rest none)
        each o named false other =
            subst (λ (v : Volume). IsHeld (after v) slave s.sync_end) (sym (no_pass_same state.volume event.entry.reply o o.command other))
            (inl (s, found, role, omega arith))

        one : (o : Option OpenCall) → opened_with opening.0 state.opened ≡ o →
            IsHeld (after (option_map_or (end_effect state.volume event.entry.reply) o state.volume)) slave s.sync_end
        one None none = inl (s, found, role, omega arith)
        one (Some o) named = each o named (is_pass o.command) refl

    by : (test : Bool) → is_ending event.entry.call ≡ test → IsHeld (effect state event) slave s.sync_end
    by true is =
        let named = opening_of event.entry.call is in
        subst (λ (x : State). IsHeld x slave s.sync_end) (sym (effect-ending state event named.0 named.1)) (ends named.0 named.1)
    by false is =
        let goes : effect state event ≡ (if is_refusal event.entry.reply then state else accepted_effect state (call_of no_hash state event)) =
        not_ending (λ opening. ended state opening.0 event.entry.reply)
        (if is_refusal event.entry.reply then state else accepted_effect state (call_of no_hash state event)) event.entry.call is in
        subst (λ (x : State). IsHeld x slave s.sync_end) (sym goes) (call (is_refusal event.entry.reply))

-- over an event: the tree stays, and what holds goes on
lasts_event : (run : Setting) (before : List Event) (event : Event) (slave id : ℕ) → MayFollow run before event →
    DrawnAfter run before slave → Holds (state_after run before) slave id →
    (at (after_event (state_after run before) event).volume slave id ≡ at (state_after run before).volume slave id)
    × Holds (after_event (state_after run before) event) slave id
lasts_event run before event slave id follows drawn (inl slave_is) =
    let state : State = state_after run before in
    let s : PseudoFileSystem = slave_is.0 in
    let sync : sync_end_of state.volume slave ≡ s.sync_end =
    ap (λ (x : Option PseudoFileSystem). option_map_or (λ (y : PseudoFileSystem). y.sync_end) x 0) slave_is.1 in
    let by : s.sync_end ≤ state.volume.last = rw sync at drawn.drawn.drawn in
    let own : event.entry.id.0 ≡ state.volume.last + 1 = follows.caused.id ∙ ap (λ (n : ℕ). n + 1) drawn.agrees.last in (
      at-kept run before event slave id s follows slave_is.1 slave_is.3 by,
      later state s slave_is.3 (omega (arith, by, slave_is.3, own)) (held_effect run before event slave s follows drawn.drawn slave_is.1 slave_is.2),
    )
  where
    later : (state : State) (s : PseudoFileSystem) → id ≤ s.sync_end → id ≤ last_after event.entry →
        IsHeld (effect state event) slave s.sync_end → Holds (after_event state event) slave id
    later state s up drawn_by (inl u) = inl (u.0, u.1, u.2, omega (arith, up, u.3))
    later state s up drawn_by (inr is) =
        inr (record { system = is.system; found = is.found; master = is.master; unfed = is.unfed }, drawn_by)
lasts_event run before event slave id follows drawn (inr master) =
    let state : State = state_after run before in
    let own : event.entry.id.0 ≡ state.volume.last + 1 = follows.caused.id ∙ ap (λ (n : ℕ). n + 1) drawn.agrees.last in (
      at-event state event slave id master.0.unfed master.1,
      inr (steady_event run before event slave follows master.0, omega (arith, master.1, own)),
    )

-- over a history
lasts_on : (run : Setting) (before es : List Event) (slave id : ℕ) → IsLegal run (before ++ es) →
    DrawnAfter run before slave → Holds (state_after run before) slave id →
    (at (state_after run (before ++ es)).volume slave id ≡ at (state_after run before).volume slave id)
    × Holds (state_after run (before ++ es)) slave id
lasts_on run before [] slave id legal drawn holds = rw append-nil (refl, holds)
lasts_on run before (e ∷ es) slave id legal drawn holds =
    let follows : MayFollow run before e = legal before e es refl in
    let step = lasts_event run before e slave id follows drawn holds in
    let pushed : state_after run (before ++ e ∷ []) ≡ after_event (state_after run before) e =
    after_events-push (opening_state run.opening run.foreigners) before e in
    let together : (before ++ e ∷ []) ++ es ≡ before ++ e ∷ es = append_assoc before (e ∷ []) es in
    let more =
    lasts_on run (before ++ e ∷ []) es slave id (rw together legal) (drawn_step run before e slave follows drawn)
    (subst (λ (s : State). Holds s slave id) (sym pushed) step.1) in
    let whole : (at (state_after run ((before ++ e ∷ []) ++ es)).volume slave id ≡ at (state_after run before).volume slave id)
    × Holds (state_after run ((before ++ e ∷ []) ++ es)) slave id =
    (more.0 ∙ (ap (λ (s : State). at s.volume slave id) pushed ∙ step.0), more.1) in
    rw together at whole

lasts : (run : Setting) (before rest : List Event) (slave id : ℕ) (s : PseudoFileSystem) → IsLegal run (before ++ rest) →
    sync_end_of run.opening slave ≤ run.opening.last → system_of (state_after run before).volume slave ≡ Some s →
    s.role ≡ Slave → id ≤ s.sync_end →
    (at (state_after run (before ++ rest)).volume slave id ≡ at (state_after run before).volume slave id)
    × Holds (state_after run (before ++ rest)) slave id
lasts run before rest slave id s legal drawn found role up =
    lasts_on run before rest slave id legal
    (DrawnAfter-legal run before slave (IsLegal-beginning run before rest legal) drawn) (inl (s, found, role, up))

pub at-lasting : (run : Setting) (before rest : List Event) (slave id : ℕ) (s : PseudoFileSystem) → IsLegal run (before ++ rest) →
    sync_end_of run.opening slave ≤ run.opening.last → system_of (state_after run before).volume slave ≡ Some s →
    s.role ≡ Slave → id ≤ s.sync_end →
    at (state_after run (before ++ rest)).volume slave id ≡ at (state_after run before).volume slave id
at-lasting run before rest slave id s legal drawn found role up = (lasts run before rest slave id s legal drawn found role up).0

pub sync_rises : (run : Setting) (before rest : List Event) (slave : ℕ) (s t : PseudoFileSystem) → IsLegal run (before ++ rest) →
    sync_end_of run.opening slave ≤ run.opening.last → system_of (state_after run before).volume slave ≡ Some s →
    s.role ≡ Slave → system_of (state_after run (before ++ rest)).volume slave ≡ Some t → t.role ≡ Slave → s.sync_end ≤ t.sync_end
sync_rises run before rest slave s t legal drawn found role later slave_then =
    by (lasts run before rest slave s.sync_end s legal drawn found role (omega arith)).1
  where
    by : Holds (state_after run (before ++ rest)) slave s.sync_end → s.sync_end ≤ t.sync_end
    by (inl u) =
        let same : Some u.0 ≡ Some t = sym u.1 ∙ later in
        let one : u.0 ≡ t = cc in
        omega (arith, u.3, ap (λ (x : PseudoFileSystem). x.sync_end) one)
    by (inr master) =
        let same : Some master.0.system ≡ Some t = sym master.0.found ∙ later in
        let one : master.0.system ≡ t = cc in
        let wrong : Master ≡ Slave = sym master.0.master ∙ (ap (λ (x : PseudoFileSystem). x.role) one ∙ slave_then) in
        absurd (cc)
