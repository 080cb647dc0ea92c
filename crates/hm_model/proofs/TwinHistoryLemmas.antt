-- A slave that shows its master's trees, over a legal history.
use Rattle.std.proofs.Common.{◌≡◌, ℕ, ◌+◌, ◌≤◌, true, false, List, [], ◌∷◌, ◌++◌, filter, refl, ◌∙◌, ap, sym, subst, arith, eqb, append_assoc}
use Rattle.std.proofs.lemmas.List.{append-nil}
use Rattle.std.specs.Prelude.{Bool, Option, Some, None, if◌then◌else◌}
use Rattle.std.specs.List.{AllByRecursion}
use Rattle.std.specs.Option.{option_map_or}
use Rattle.hm_types.specs.declared.id.Id.{Id}
use Rattle.hm_model.specs.declared.command.Command.{Command}
use Rattle.hm_model.specs.declared.command.Command.TheVariants.{End, MirrorCopy, MirrorWrite, PfsUpgrade}
use Rattle.hm_model.specs.declared.reply.Reply.{Reply}
use Rattle.hm_model.specs.After.{Event, OpenCall, State, accepted_effect, after_event, call_of, effect, end_effect, ended, last_after, no_hash}
use Rattle.hm_model.specs.After.{opened_with, opening_state, end_effect_of}
use Rattle.hm_model.specs.Caused.{IsPossible, Known, early_refusal, is_ending, known_after, known_after_entry, known_at, possible_for}
use Rattle.hm_model.specs.Due.{is_pass}
use Rattle.hm_model.specs.Laws.{EndsPass, IsMasterFrom, IsUnfed, is_rewriter}
use Rattle.hm_model.specs.Legal.{IsLegal, MayFollow, Setting, begin_of, state_after}
use Rattle.hm_model.specs.Reply.{is_refusal}
use Rattle.hm_model.specs.Volume.{PseudoFileSystem, Volume}
use Rattle.hm_model.proofs.EffectLemmas.{found_fails}
use Rattle.hm_model.proofs.EventLemmas.{after_events-push, known_after-push}
use Rattle.hm_model.proofs.KnownLemmas.{Agrees, Agrees-event, All-still, NoPass, OnePass-still, accepted_alone, none_busy, none_still, opening_of}
use Rattle.hm_model.proofs.PassEndLemmas.{begin_legal, ending_is}
use Rattle.hm_model.proofs.RefusalLemmas.{not_ending}
use Rattle.hm_model.proofs.SourceLemmas.{fed_no_pass}
use Rattle.hm_model.proofs.TwinLemmas.{FedBy, Twin, Twin-accepted}
use Rattle.hm_model.proofs.TwinEndLemmas.{Ended, end_call, found_holds}
use Rattle.hm_model.proofs.VersionLemmas.{by_later}

-- calls of which none is a pass feed no slave
none_fed : (slave m : ℕ) (s t : PseudoFileSystem) (os : List OpenCall) → NoPass os → AllByRecursion (FedBy slave m s t) os
none_fed slave m s t [] none = tt
none_fed slave m s t (o ∷ os) none = (λ is. fed_no_pass o.master m s t o.origin o.command none.0, none_fed slave m s t os none.1)

-- the end of a call that is no pass does nothing
pub no_pass_same : (volume : Volume) (reply : Reply) (o : OpenCall) (command : Command) → is_pass command ≡ false →
    (end_effect_of volume reply o command) ≡ volume
no_pass_same volume reply o (MirrorCopy master slave limit) is = absurd (cc)
no_pass_same volume reply o (MirrorWrite path) is = absurd (cc)
no_pass_same volume reply o (PfsUpgrade path) is = absurd (cc)
no_pass_same volume reply o command is = refl

-- more ids were drawn, and fewer calls are open
twin_still : (last now opening : ℕ) (volume : Volume) (opened : List OpenCall) (slave m : ℕ) → last ≤ now → Twin last volume opened slave m →
    Twin now volume (filter (λ (o : OpenCall). if eqb o.opening opening then false else true) opened) slave m
twin_still last now opening volume opened slave m later twin = record {
  own = twin.own;
  other = twin.other;
  found = twin.found;
  found_other = twin.found_other;
  drawn = omega (arith, twin.drawn, later);
  follows = twin.follows;
  fed = All-still (FedBy slave m twin.own twin.other) opening opened twin.fed;
  one = OnePass-still opening opened twin.one;
  rising = twin.rising;
  begun = by_later last now twin.other.versions twin.begun later;
}

-- more ids were drawn
twin_drawn : (last now n : ℕ) (volume : Volume) (opened : List OpenCall) (slave m : ℕ) → last ≤ now → Twin last volume opened slave m →
    Twin now (record volume { last = n }) opened slave m
twin_drawn last now n volume opened slave m later twin = record {
  own = twin.own;
  other = twin.other;
  found = twin.found;
  found_other = twin.found_other;
  drawn = omega (arith, twin.drawn, later);
  follows = twin.follows;
  fed = twin.fed;
  one = twin.one;
  rising = twin.rising;
  begun = by_later last now twin.other.versions twin.begun later;
}

-- over an ending
twin_ended : (state : State) (event : Event) (opening : Id) (slave m : ℕ) → event.entry.call ≡ End opening → event.entry.id.0 ≡ state.volume.last + 1 →
    IsUnfed state m → ((o : OpenCall) (begin end : Id) → EndsPass state event o begin end → begin.0 ≡ begin_of state.volume o) →
    Twin state.volume.last state.volume state.opened slave m → Twin (last_after event.entry) (ended state opening.0 event.entry.reply).volume
    (ended state opening.0 event.entry.reply).opened slave m
twin_ended state event opening slave m call id unfed begins twin = by (opened_with opening.0 state.opened) refl
  where
    now : ℕ
    now = last_after event.entry

    reply : Reply
    reply = event.entry.reply

    rest : List OpenCall
    rest = filter (λ (o : OpenCall). if eqb o.opening opening.0 then false else true) state.opened

    each : (o : OpenCall) → opened_with opening.0 state.opened ≡ Some o → (test : Bool) → is_pass o.command ≡ test →
        Twin now (end_effect state.volume reply o) rest slave m
    each o found true is =
        let end : Ended now (end_effect state.volume reply o) slave m twin.other =
        end_call now state reply o slave m twin (omega (arith, id)) (omega arith)
        (found_holds (FedBy slave m twin.own twin.other) (λ (x : OpenCall). eqb x.opening opening.0) state.opened o found twin.fed)
        (found_fails (λ (x : OpenCall). eqb x.opening opening.0) (is_rewriter m) state.opened o found unfed)
        (λ begin end told pass. begins o begin end (record { opening = opening; call = call; reply = told; found = found; pass = pass })) in
        let none : NoPass rest = none_still opening.0 state.opened o twin.one found is in
        record {
          own = end.own;
          other = twin.other;
          found = end.found;
          found_other = end.found_other;
          drawn = end.drawn;
          follows = end.follows;
          fed = none_fed slave m end.own twin.other rest none;
          one = OnePass-still opening.0 state.opened twin.one;
          rising = twin.rising;
          begun = by_later state.volume.last now twin.other.versions twin.begun (omega (arith, id));
        }
    each o found false is =
        subst (λ (v : Volume). Twin now v rest slave m) (sym (no_pass_same state.volume reply o o.command is))
        (twin_still state.volume.last now opening.0 state.volume state.opened slave m (omega (arith, id)) twin)

    by : (found : Option OpenCall) → opened_with opening.0 state.opened ≡ found →
        Twin now (option_map_or (end_effect state.volume reply) found state.volume) rest slave m
    by None is = twin_still state.volume.last now opening.0 state.volume state.opened slave m (omega (arith, id)) twin
    by (Some o) is = each o is (is_pass o.command) refl

-- over an event
pub Twin-event : (known : Known) (state : State) (event : Event) (numbers : List ℕ) (slave m : ℕ) → Agrees known state → event.entry.id.0 ≡ known.last + 1 →
    IsPossible (early_refusal known event) numbers event.entry.reply → IsUnfed state m →
    ((o : OpenCall) (begin end : Id) → EndsPass state event o begin end → begin.0 ≡ begin_of state.volume o) →
    Twin state.volume.last state.volume state.opened slave m → Twin (last_after event.entry) (after_event state event).volume
    (after_event state event).opened slave m
Twin-event known state event numbers slave m agrees id early unfed begins twin =
    let now : ℕ = last_after event.entry in
    twin_drawn now now now (effect state event).volume (effect state event).opened slave m (omega arith) (by (is_ending event.entry.call) refl)
  where
    own : event.entry.id.0 ≡ state.volume.last + 1
    own = id ∙ ap (λ (n : ℕ). n + 1) agrees.last

    drawn : {last : ℕ} (s : State) → last ≤ last_after event.entry → Twin last s.volume s.opened slave m →
        Twin (last_after event.entry) s.volume s.opened slave m
    drawn {last} s later t = twin_drawn last (last_after event.entry) s.volume.last s.volume s.opened slave m later t

    call : (test : Bool) → is_refusal event.entry.reply ≡ test →
        Twin (last_after event.entry) (if test then state else accepted_effect state (call_of no_hash state event)).volume
        (if test then state else accepted_effect state (call_of no_hash state event)).opened slave m
    call true is = drawn state (omega (arith, own)) twin
    call false is =
        drawn (accepted_effect state (call_of no_hash state event)) (omega (arith, own))
        (Twin-accepted state (call_of no_hash state event) slave m refl
        (λ pass. none_busy state.opened (rw agrees.opened at (accepted_alone known event numbers early is pass))) twin)

    by : (test : Bool) → is_ending event.entry.call ≡ test → Twin (last_after event.entry) (effect state event).volume (effect state event).opened slave m
    by true is =
        let named = opening_of event.entry.call is in
        let goes : effect state event ≡ ended state named.0.0 event.entry.reply =
        ending_is (λ opening. ended state opening.0 event.entry.reply)
        (if is_refusal event.entry.reply then state else accepted_effect state (call_of no_hash state event)) event.entry.call named.0 named.1 in
        subst (λ (s : State). Twin (last_after event.entry) s.volume s.opened slave m) (sym goes)
        (twin_ended state event named.0 slave m named.1 own unfed begins twin)
    by false is =
        let goes : effect state event ≡ (if is_refusal event.entry.reply then state else accepted_effect state (call_of no_hash state event)) =
        not_ending (λ opening. ended state opening.0 event.entry.reply)
        (if is_refusal event.entry.reply then state else accepted_effect state (call_of no_hash state event)) event.entry.call is in
        subst (λ (s : State). Twin (last_after event.entry) s.volume s.opened slave m) (sym goes) (call (is_refusal event.entry.reply) refl)

-- the twin of a state
abbrev pub IsTwin : State → ℕ → ℕ → Type 0
IsTwin state slave m = Twin state.volume.last state.volume state.opened slave m

-- a master later on
pub master_later : (run : Setting) (before : List Event) (e : Event) (es : List Event) (m : ℕ) → IsMasterFrom run before (e ∷ es) m →
    IsMasterFrom run (before ++ e ∷ []) es m
master_later run before e es m master some rest is = rw append_assoc (master (e ∷ some) rest (ap (λ (xs : List Event). e ∷ xs) is))

-- over a history, from the end of a beginning of it on
pub Twin-history : (run : Setting) (before es : List Event) (slave m : ℕ) → IsLegal run (before ++ es) → IsMasterFrom run before es m →
    Agrees (known_after (known_at run.opening.last run.start) before) (state_after run before) → IsTwin (state_after run before) slave m →
    IsTwin (state_after run (before ++ es)) slave m
Twin-history run before [] slave m legal master agrees twin = rw append-nil twin
Twin-history run before (e ∷ es) slave m legal master agrees twin =
    let known : Known = known_after (known_at run.opening.last run.start) before in
    let state : State = state_after run before in
    let follows : MayFollow run before e = legal before e es refl in
    let unfed : IsUnfed state m = (rw append-nil at (master [] (e ∷ es) refl)).unfed in
    let next : Twin (last_after e.entry) (after_event state e).volume (after_event state e).opened slave m =
    Twin-event known state e (possible_for known e) slave m agrees follows.caused.id follows.caused.possible unfed
    (λ o begin end ends. begin_legal run before e o begin end follows ends) twin in
    let also : Agrees (known_after_entry known e.entry) (after_event state e) = Agrees-event known state e agrees follows.caused.id in
    let pushed : state_after run (before ++ e ∷ []) ≡ after_event state e = after_events-push (opening_state run.opening run.foreigners) before e in
    let known_pushed : known_after (known_at run.opening.last run.start) (before ++ e ∷ []) ≡ known_after_entry known e.entry =
    known_after-push (known_at run.opening.last run.start) before e in
    let together : (before ++ e ∷ []) ++ es ≡ before ++ e ∷ es = append_assoc before (e ∷ []) es in
    rw (← together) (Twin-history run (before ++ e ∷ []) es slave m (rw together legal) (master_later run before e es m master)
    (rw (pushed, known_pushed) also) (subst (λ (s : State). IsTwin s slave m) (sym pushed) next))
