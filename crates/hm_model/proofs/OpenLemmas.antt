-- Which calls are open in a legal history: those that rewrite a PFS name one that is there, and at most one is
-- a pass.
use Rattle.std.proofs.Common.{◌≡◌, ℕ, ◌+◌, true, false, List, [], ◌∷◌, ◌++◌, refl, ◌∙◌, ap, sym, subst, inl, inr, arith, eqb, append_assoc}
use Rattle.std.proofs.lemmas.List.{append-nil}
use Rattle.std.proofs.lemmas.Bool.Decides.{nat_tests}
use Rattle.std.specs.Prelude.{◌&&◌, ◌||◌, Bool, Option, Some, None, if◌then◌else◌}
use Rattle.std.specs.List.{AllByRecursion, list_any}
use Rattle.std.specs.Option.{option_map_or}
use Rattle.hm_model.specs.declared.reply.Reply.{Reply}
use Rattle.hm_model.specs.After.{Event, OpenCall, State, accepted_effect, after_event, after_pass, call_of, effect, end_effect, end_of_pass, ended}
use Rattle.hm_model.specs.After.{given_in, no_hash, nothing_merged, of_pfs, opened_with, opening_state, upgraded, with_origin}
use Rattle.hm_model.specs.Call.{Call, first_site, second_site}
use Rattle.hm_model.specs.Caused.{IsPossible, Known, early_refusal, is_ending, known_after, known_after_entry, known_at, possible_for}
use Rattle.hm_model.specs.Due.{is_pass}
use Rattle.hm_model.specs.Laws.{IsThere, is_rewriter, rewrites}
use Rattle.hm_model.specs.Legal.{IsLegal, MayFollow, Setting, state_after}
use Rattle.hm_model.specs.Reply.{is_refusal}
use Rattle.hm_model.specs.Volume.{PseudoFileSystem, Volume, system_of}
use Rattle.hm_model.proofs.AgeLemmas.{AgesIn, ages_accepted}
use Rattle.hm_model.proofs.CheckLemmas.{written_site}
use Rattle.hm_model.proofs.EventLemmas.{after_events-push, known_after-push}
use Rattle.hm_model.proofs.GrowthLemmas.{KeepsNumber, found-changed, found-other, same_or_not}
use Rattle.hm_model.proofs.KeptPastLemmas.{effect-ending}
use Rattle.hm_model.proofs.KnownLemmas.{Agrees, Agrees-event, All-still, NoPass, OnePass, OnePass-still, accepted_alone, none_busy, opening_of}
use Rattle.hm_model.proofs.RefusalLemmas.{not_ending}
use Rattle.hm_model.proofs.SteadyLemmas.{opened_at}
use Rattle.hm_model.proofs.ThereLemmas.{written_there}
use Rattle.hm_model.proofs.TwinEndLemmas.{end_by, pass_by, upgrade_by}
use Rattle.hm_model.proofs.TwinLemmas.{aged_some}

-- an open call that rewrites a PFS names one that is there
abbrev pub NamesThere : Volume → OpenCall → Type 0
NamesThere volume o = rewrites o.command ≡ true → IsThere volume o.pfs

pub record IsOrderly (volume : Volume) (opened : List OpenCall) : Type 0 where
  pub root : IsThere volume 0
  pub named : AllByRecursion (NamesThere volume) opened
  pub one : OnePass opened

-- what is there stays, over an accepted call and over the end of one
there_accepted : (state : State) (call : Call) (pfs : ℕ) → call.volume ≡ state.volume → IsThere state.volume pfs →
    IsThere (accepted_effect state call).volume pfs
there_accepted state call pfs same there =
    let aged : AgesIn state.volume.last (Some there.0) (system_of (accepted_effect state call).volume pfs) =
    rw there.1 at (ages_accepted state call pfs same) in
    let u = aged_some state.volume.last there.0 (system_of (accepted_effect state call).volume pfs) aged in
    (u.0, u.1)

there_changed : (volume : Volume) (pfs other : ℕ) (f : PseudoFileSystem → PseudoFileSystem) → KeepsNumber f → IsThere volume pfs →
    IsThere (of_pfs volume other f) pfs
there_changed volume pfs other f keeps there = elim (same_or_not other pfs) [
  | inl same ↦ (
    f there.0,
    rw same (found-changed pfs f volume.systems keeps
        ∙ ap (λ (x : Option PseudoFileSystem). option_map_or (λ (y : PseudoFileSystem). Some (f y)) x None) there.1),
  )
  | inr differ ↦ (there.0, found-other pfs other f volume.systems keeps differ ∙ there.1)
]

there_end : (volume : Volume) (reply : Reply) (o : OpenCall) (pfs : ℕ) → IsThere volume pfs → IsThere (end_effect volume reply o) pfs
there_end volume reply o pfs there =
    end_by (λ (v : Volume). IsThere v pfs) volume reply o o.command refl there (λ from into limit is. pass) (λ into is. write (nothing_merged reply))
    (λ path is. upgrade_by (λ (v : Volume). IsThere v pfs) volume o reply there (there_changed volume pfs o.pfs upgraded (λ x. refl) there))
  where
    pass : IsThere (end_of_pass volume o reply) pfs
    pass = pass_by (λ (v : Volume). IsThere v pfs) volume o reply there
        (λ begin end told. there_changed volume pfs o.pfs (after_pass (given_in volume o) begin.0 end.0) (λ x. refl) there)

    write : (test : Bool) → IsThere (if test then of_pfs volume o.pfs (with_origin o.origin) else end_of_pass volume o reply) pfs
    write true = there_changed volume pfs o.pfs (with_origin o.origin) (λ x. refl) there
    write false = pass

there_ended : (volume : Volume) (reply : Reply) (found : Option OpenCall) (pfs : ℕ) → IsThere volume pfs →
    IsThere (option_map_or (end_effect volume reply) found volume) pfs
there_ended volume reply None pfs there = there
there_ended volume reply (Some o) pfs there = there_end volume reply o pfs there

-- what all open calls have over one change of volumes
all_there : (a b : Volume) (os : List OpenCall) → ((pfs : ℕ) → IsThere a pfs → IsThere b pfs) → AllByRecursion (NamesThere a) os →
    AllByRecursion (NamesThere b) os
all_there a b [] stays all = tt
all_there a b (o ∷ os) stays all = (λ writes. stays o.pfs (all.0 writes), all_there a b os stays all.1)

orderly_accepted : (state : State) (call : Call) → call.volume ≡ state.volume → (is_pass call.command ≡ true → NoPass state.opened) →
    IsOrderly state.volume state.opened → IsOrderly (accepted_effect state call).volume (accepted_effect state call).opened
orderly_accepted state call same alone orderly =
    let after : State = accepted_effect state call in
    let stays : (pfs : ℕ) → IsThere state.volume pfs → IsThere after.volume pfs = λ pfs there. there_accepted state call pfs same there in
    let still : AllByRecursion (NamesThere after.volume) state.opened = all_there state.volume after.volume state.opened stays orderly.named in
    let both : AllByRecursion (NamesThere after.volume) after.opened × OnePass after.opened = elim (opened_at state call call.command refl) [
      | inl is ↦ rw is (still, orderly.one)
      | inr new ↦ rw new.1 (
        (
          λ writes.
              let also : rewrites call.command ≡ true = rw (← new.2) writes in
              let here : IsThere state.volume new.0.pfs =
              rw (new.3 also) (subst (λ (v : Volume). IsThere v (written_site call.command (first_site call) (second_site call)).at.pfs) same
              (written_there call call.command also (subst (λ (v : Volume). IsThere v 0) (sym same) orderly.root))) in
              stays new.0.pfs here,
          still,
        ),
        (λ is. alone (rw (← new.2) is), orderly.one),
      )
    ] in
    record { root = stays 0 orderly.root; named = both.0; one = both.1 }

orderly_ended : (state : State) (opening : ℕ) (reply : Reply) → IsOrderly state.volume state.opened →
    IsOrderly (ended state opening reply).volume (ended state opening reply).opened
orderly_ended state opening reply orderly =
    let after : Volume = (ended state opening reply).volume in
    let stays : (pfs : ℕ) → IsThere state.volume pfs → IsThere after pfs =
    λ pfs there. there_ended state.volume reply (opened_with opening state.opened) pfs there in
    record {
      root = stays 0 orderly.root;
      named = All-still (NamesThere after) opening state.opened (all_there state.volume after state.opened stays orderly.named);
      one = OnePass-still opening state.opened orderly.one;
    }

-- over an event
orderly_event : (known : Known) (state : State) (event : Event) (numbers : List ℕ) → Agrees known state →
    IsPossible (early_refusal known event) numbers event.entry.reply → IsOrderly state.volume state.opened →
    IsOrderly (after_event state event).volume (after_event state event).opened
orderly_event known state event numbers agrees early orderly =
    let whole : IsOrderly (effect state event).volume (effect state event).opened = by (is_ending event.entry.call) refl in
    record { root = whole.root; named = whole.named; one = whole.one }
  where
    call : (test : Bool) → is_refusal event.entry.reply ≡ test →
        IsOrderly (if test then state else accepted_effect state (call_of no_hash state event)).volume
        (if test then state else accepted_effect state (call_of no_hash state event)).opened
    call true is = orderly
    call false is =
        orderly_accepted state (call_of no_hash state event) refl
        (λ pass. none_busy state.opened (rw agrees.opened at (accepted_alone known event numbers early is pass))) orderly

    by : (test : Bool) → is_ending event.entry.call ≡ test → IsOrderly (effect state event).volume (effect state event).opened
    by true is =
        let named = opening_of event.entry.call is in
        subst (λ (s : State). IsOrderly s.volume s.opened) (sym (effect-ending state event named.0 named.1))
        (orderly_ended state named.0.0 event.entry.reply orderly)
    by false is =
        let goes : effect state event ≡ (if is_refusal event.entry.reply then state else accepted_effect state (call_of no_hash state event)) =
        not_ending (λ opening. ended state opening.0 event.entry.reply)
        (if is_refusal event.entry.reply then state else accepted_effect state (call_of no_hash state event)) event.entry.call is in
        subst (λ (s : State). IsOrderly s.volume s.opened) (sym goes) (call (is_refusal event.entry.reply) refl)

-- what holds after a beginning of a legal history: what is known agrees, and the open calls are orderly
pub record StandsAfter (run : Setting) (before : List Event) : Type 0 where
  pub agrees : Agrees (known_after (known_at run.opening.last run.start) before) (state_after run before)
  pub orderly : IsOrderly (state_after run before).volume (state_after run before).opened

stands_on : (run : Setting) (before es : List Event) → IsLegal run (before ++ es) → StandsAfter run before → StandsAfter run (before ++ es)
stands_on run before [] legal stands = rw append-nil stands
stands_on run before (e ∷ es) legal stands =
    let known : Known = known_after (known_at run.opening.last run.start) before in
    let state : State = state_after run before in
    let follows : MayFollow run before e = legal before e es refl in
    let orderly : IsOrderly (after_event state e).volume (after_event state e).opened =
    orderly_event known state e (possible_for known e) stands.agrees follows.caused.possible stands.orderly in
    let agrees : Agrees (known_after_entry known e.entry) (after_event state e) = Agrees-event known state e stands.agrees follows.caused.id in
    let pushed : state_after run (before ++ e ∷ []) ≡ after_event state e = after_events-push (opening_state run.opening run.foreigners) before e in
    let known_pushed : known_after (known_at run.opening.last run.start) (before ++ e ∷ []) ≡ known_after_entry known e.entry =
    known_after-push (known_at run.opening.last run.start) before e in
    let together : (before ++ e ∷ []) ++ es ≡ before ++ e ∷ es = append_assoc before (e ∷ []) es in
    rw (← together) (stands_on run (before ++ e ∷ []) es (rw together legal)
    (record { agrees = rw (pushed, known_pushed) agrees; orderly = subst (λ (s : State). IsOrderly s.volume s.opened) (sym pushed) orderly }))

pub StandsAfter-legal : (run : Setting) (events : List Event) → IsThere run.opening 0 → IsLegal run events → StandsAfter run events
StandsAfter-legal run events root legal =
    stands_on run [] events legal (record { agrees = record { last = refl; opened = refl }; orderly = record { root = root; named = tt; one = tt } })

-- no open call rewrites a PFS that is not there
pub none_unfed : (volume : Volume) (pfs : ℕ) (os : List OpenCall) → system_of volume pfs ≡ None → AllByRecursion (NamesThere volume) os →
    list_any (is_rewriter pfs) os ≡ false
none_unfed volume pfs [] none named = refl
none_unfed volume pfs (o ∷ os) none named = rw (head (eqb o.pfs pfs) (rewrites o.command) refl refl) (rw (none_unfed volume pfs os none named.1) refl)
  where
    head : (here writes : Bool) → eqb o.pfs pfs ≡ here → rewrites o.command ≡ writes → (here && writes) ≡ false
    head true true same is =
        let one : o.pfs ≡ pfs = grind (arith, nat_tests, same) in
        let there = named.0 is in
        let found : system_of volume pfs ≡ Some there.0 = rw (← one) there.1 in
        absurd (let wrong : Some there.0 ≡ None = sym found ∙ none in cc)
    head true false same is = refl
    head false writes same is = refl
