-- A master stays one, and no pass into it and no upgrade of it is opened.
use Rattle.std.proofs.Common.{◌≡◌, ℕ, true, false, List, [], ◌∷◌, ◌++◌, filter, refl, ◌∙◌, ap, sym, subst, inl, inr, arith, eqb, append_assoc}
use Rattle.std.proofs.lemmas.List.{append-nil}
use Rattle.std.specs.Prelude.{◌⊎◌, Bool, ◌&&◌, Some, None, if◌then◌else◌}
use Rattle.std.specs.List.{list_any}
use Rattle.std.proofs.lemmas.Bool.Decides.{nat_tests}
use Rattle.hm_model.specs.declared.command.Command.{Command}
use Rattle.hm_model.specs.declared.command.Command.TheVariants.{Prune, PruneAll, Reblock, PfsUpgrade, MirrorRead, MirrorWrite, MirrorCopy, End}
use Rattle.hm_model.specs.After.{Event, OpenCall, State, accepted_effect, after_event, call_of, effect, ended, last_after, next_stream, no_hash}
use Rattle.hm_model.specs.After.{of_pfs, on_volume, opening_state, present_only, retaining, with_opened, accepted_effect_of}
use Rattle.hm_model.specs.Answer.{is_master}
use Rattle.hm_model.specs.Call.{Call, each_located, first_of, first_site, own_id, second_of, second_site}
use Rattle.hm_model.specs.Caused.{is_ending}
use Rattle.hm_model.specs.Change.{change}
use Rattle.hm_model.specs.Cut.{pruned}
use Rattle.hm_model.specs.Foreign.{no_feed}
use Rattle.hm_model.specs.Due.{first_refusal, is_tree_call, kept_ids, record_checks}
use Rattle.hm_types.specs.Hash.{name_hash}
use Rattle.hm_model.specs.Laws.{IsMasterThroughout, IsSteadyMaster, IsUnfed, is_rewriter, rewrites}
use Rattle.hm_model.specs.Legal.{IsLegal, MayFollow, Setting, state_after}
use Rattle.hm_model.specs.Reply.{is_refusal}
use Rattle.hm_model.specs.Sites.{Parsed, BadAt, Parts, Site, Use, uses_of}
use Rattle.hm_model.specs.Volume.{PseudoFileSystem, Role, Master, Slave, system_of}
use Rattle.hm_model.proofs.AgeLemmas.{AgesIn, ages_accepted}
use Rattle.hm_model.proofs.CheckLemmas.{written_site, written_slave}
use Rattle.hm_model.proofs.EffectLemmas.{ended_system, or_false}
use Rattle.hm_model.proofs.EventLemmas.{after_events-push}
use Rattle.hm_model.proofs.KnownLemmas.{opening_of}
use Rattle.hm_model.proofs.PassEndLemmas.{ending_is}
use Rattle.hm_model.proofs.RefusalLemmas.{not_ending}
use Rattle.hm_model.proofs.TwinLemmas.{aged_some, new_call}

-- what an accepted call opens, and on which PFS
abbrev pub OpenedAt : State → Call → State → Type 0
OpenedAt state call after =
    (after.opened ≡ state.opened)
    ⊎ ((o : OpenCall) × (after.opened ≡ o ∷ state.opened) × (o.command ≡ call.command)
    × (rewrites call.command ≡ true → o.pfs ≡ (written_site call.command (first_site call) (second_site call)).at.pfs)
    × (o.opening ≡ own_id call))

opens_other : (state after : State) (call : Call) (pfs : ℕ) (command : Command) → call.command ≡ command → rewrites command ≡ false →
    after.opened ≡ new_call state call pfs pfs no_feed ∷ state.opened → OpenedAt state call after
opens_other state after call pfs command is other opened =
    inr (new_call state call pfs pfs no_feed, opened, refl, λ writes. absurd (let no_way : rewrites call.command ≡ false = ap rewrites is ∙ other in cc), refl)

pub opened_at : (state : State) (call : Call) (command : Command) → call.command ≡ command →
    OpenedAt state call (accepted_effect_of state call command)
opened_at state call (Prune path) is =
    opens_other state (on_volume (with_opened state call (first_site call).at.pfs (first_site call).at.pfs no_feed)
    (of_pfs state.volume (first_site call).at.pfs (λ s. retaining (pruned s.retention (kept_ids call)) s))) call (first_site call).at.pfs (Prune path) is
    refl refl
opened_at state call (PruneAll path) is =
    opens_other state (on_volume (with_opened state call (first_site call).at.pfs (first_site call).at.pfs no_feed)
    (of_pfs state.volume (first_site call).at.pfs (present_only (own_id call)))) call (first_site call).at.pfs (PruneAll path) is refl refl
opened_at state call (Reblock fill) is = opens_other state (with_opened state call 0 0 no_feed) call 0 (Reblock fill) is refl refl
opened_at state call (MirrorRead path begin) is =
    opens_other state (with_opened state call (first_site call).at.pfs (first_site call).at.pfs no_feed) call (first_site call).at.pfs
    (MirrorRead path begin) is refl refl
opened_at state call (PfsUpgrade path) is =
    inr (
      new_call state call (first_site call).at.pfs (first_site call).at.pfs no_feed,
      refl,
      refl,
      λ writes. sym (ap (λ (c : Command). (written_site c (first_site call) (second_site call)).at.pfs) is),
      refl,
    )
opened_at state call (MirrorWrite path) is =
    inr (
      new_call state call (first_site call).at.pfs (first_site call).at.pfs (next_stream state.streams),
      refl,
      refl,
      λ writes. sym (ap (λ (c : Command). (written_site c (first_site call) (second_site call)).at.pfs) is),
      refl,
    )
opened_at state call (MirrorCopy master slave limit) is =
    inr (
      new_call state call (second_site call).at.pfs (first_site call).at.pfs no_feed,
      refl,
      refl,
      λ writes. sym (ap (λ (c : Command). (written_site c (first_site call) (second_site call)).at.pfs) is),
      refl,
    )
opened_at state call other is = by (is_tree_call other)
  where
    by : (test : Bool) → OpenedAt state call (if test then on_volume state (change call) else state)
    by true = inl refl
    by false = inl refl

-- where paths lead does not hang on the hash of names
pub same_sites : (call : Call) (hash : List ℕ → ℕ) (uses : List (Use × List ℕ)) (paths : List Parsed) →
    each_located (record call { hash = hash }) uses paths ≡ each_located call uses paths
same_sites call hash [] paths = refl
same_sites call hash (u ∷ uses) [] = refl
same_sites call hash (u ∷ uses) (Parts parts ∷ paths) = rw (same_sites call hash uses paths) refl
same_sites call hash (u ∷ uses) (BadAt place ∷ paths) = rw (same_sites call hash uses paths) refl

-- open calls of which none rewrites a PFS, with one fewer
unfed_still : (pfs opening : ℕ) (os : List OpenCall) → list_any (is_rewriter pfs) os ≡ false →
    list_any (is_rewriter pfs) (filter (λ (o : OpenCall). if eqb o.opening opening then false else true) os) ≡ false
unfed_still pfs opening [] none = refl
unfed_still pfs opening (o ∷ os) none =
    let both = or_false (is_rewriter pfs o) (list_any (is_rewriter pfs) os) none in
    by (eqb o.opening opening) both.0 (unfed_still pfs opening os both.1)
  where
    by : (test : Bool) → is_rewriter pfs o ≡ false → list_any (is_rewriter pfs)
        (filter (λ (x : OpenCall). if eqb x.opening opening then false else true) os) ≡ false →
        list_any (is_rewriter pfs) (if (if test then false else true) then o ∷ filter (λ (x : OpenCall). if eqb x.opening opening then false else true) os
        else filter (λ (x : OpenCall). if eqb x.opening opening then false else true) os) ≡ false
    by true first rest = rest
    by false first rest = rw (first, rest) refl

not_both : (a b : Bool) → (a ≡ true → b ≡ true → ⊥) → (a && b) ≡ false
not_both true true both = absurd (both refl refl)
not_both true false both = refl
not_both false b both = refl

-- over an accepted call
steady_accepted : (state : State) (event : Event) (pfs : ℕ) → first_refusal (record_checks (call_of name_hash state event)) ≡ None →
    IsSteadyMaster state pfs → IsSteadyMaster (accepted_effect state (call_of no_hash state event)) pfs
steady_accepted state event pfs none steady =
    let call : Call = call_of no_hash state event in
    let named : Call = call_of name_hash state event in
    let after : State = accepted_effect state call in
    let aged : AgesIn state.volume.last (Some steady.system) (system_of after.volume pfs) = rw steady.found at (ages_accepted state call pfs refl) in
    let u = aged_some state.volume.last steady.system (system_of after.volume pfs) aged in
    let located : each_located named (uses_of call.command) call.paths ≡ each_located call (uses_of call.command) call.paths =
    same_sites call name_hash (uses_of call.command) call.paths in
    let first : first_site named ≡ first_site call = ap first_of located in
    let second : second_site named ≡ second_site call = ap second_of located in
    let unfed : IsUnfed after pfs = elim (opened_at state call call.command refl) [
      | inl same ↦ rw same steady.unfed
      | inr new ↦
          let head : is_rewriter pfs new.0 ≡ false = not_both (eqb new.0.pfs pfs) (rewrites new.0.command) (λ here writes.
          let same : new.0.pfs ≡ pfs = grind (arith, nat_tests, here) in
          let also : rewrites call.command ≡ true = subst (λ (c : Command). rewrites c ≡ true) new.2 writes in
          let site : pfs ≡ (written_site call.command (first_site named) (second_site named)).at.pfs =
          sym same ∙ (new.3 also ∙ sym (ap (λ (s : Site). (written_site call.command s (second_site call)).at.pfs) first
          ∙ ap (λ (s : Site). (written_site call.command (first_site call) s).at.pfs) second)) in
          let site_other : pfs ≡ (written_site call.command (first_site named) (second_site named)).at.pfs = site in
          let found : system_of state.volume (written_site call.command (first_site named) (second_site named)).at.pfs ≡ Some steady.system =
          subst (λ (p : ℕ). system_of state.volume p ≡ Some steady.system) site_other steady.found in
          let slave : is_master steady.system ≡ false = written_slave named steady.system none also found in
          let master : is_master steady.system ≡ true = ap (λ (role : Role). elim role [ Master ↦ true | Slave ↦ false ]) steady.master in
          let wrong : true ≡ false = sym master ∙ slave in
          absurd (cc)) in
          rw new.1 (rw (head, steady.unfed) refl)
    ] in
    record { system = u.0; found = u.1; master = u.2.role ∙ steady.master; unfed = unfed }

-- over an event
pub steady_event : (run : Setting) (before : List Event) (event : Event) (pfs : ℕ) → MayFollow run before event →
    IsSteadyMaster (state_after run before) pfs → IsSteadyMaster (after_event (state_after run before) event) pfs
steady_event run before event pfs follows steady = last (effect (state_after run before) event) (by (is_ending event.entry.call) refl)
  where
    state : State
    state = state_after run before

    last : (s : State) → IsSteadyMaster s pfs → IsSteadyMaster (on_volume s (record s.volume { last = last_after event.entry })) pfs
    last s is = record { system = is.system; found = is.found; master = is.master; unfed = is.unfed }

    call_by : is_ending event.entry.call ≡ false → (test : Bool) → is_refusal event.entry.reply ≡ test →
        IsSteadyMaster (if test then state else accepted_effect state (call_of no_hash state event)) pfs
    call_by call true is = steady
    call_by call false is = steady_accepted state event pfs (follows.lands is).records steady

    by : (test : Bool) → is_ending event.entry.call ≡ test → IsSteadyMaster (effect state event) pfs
    by true is =
        let named = opening_of event.entry.call is in
        let goes : effect state event ≡ ended state named.0.0 event.entry.reply =
        ending_is (λ opening. ended state opening.0 event.entry.reply)
        (if is_refusal event.entry.reply then state else accepted_effect state (call_of no_hash state event)) event.entry.call named.0 named.1 in
        let end : IsSteadyMaster (ended state named.0.0 event.entry.reply) pfs = record {
          system = steady.system;
          found = ended_system state named.0.0 event.entry.reply pfs steady.unfed ∙ steady.found;
          master = steady.master;
          unfed = unfed_still pfs named.0.0 state.opened steady.unfed;
        } in
        subst (λ (s : State). IsSteadyMaster s pfs) (sym goes) end
    by false is =
        let goes : effect state event ≡ (if is_refusal event.entry.reply then state else accepted_effect state (call_of no_hash state event)) =
        not_ending (λ opening. ended state opening.0 event.entry.reply)
        (if is_refusal event.entry.reply then state else accepted_effect state (call_of no_hash state event)) event.entry.call is in
        subst (λ (s : State). IsSteadyMaster s pfs) (sym goes) (call_by is (is_refusal event.entry.reply) refl)

-- over a history
pub steady_history : (run : Setting) (before es : List Event) (pfs : ℕ) → IsLegal run (before ++ es) → IsSteadyMaster (state_after run before) pfs →
    IsSteadyMaster (state_after run (before ++ es)) pfs
steady_history run before [] pfs legal steady = rw append-nil steady
steady_history run before (e ∷ es) pfs legal steady =
    let follows : MayFollow run before e = legal before e es refl in
    let next : IsSteadyMaster (after_event (state_after run before) e) pfs = steady_event run before e pfs follows steady in
    let pushed : state_after run (before ++ e ∷ []) ≡ after_event (state_after run before) e =
    after_events-push (opening_state run.opening run.foreigners) before e in
    let together : (before ++ e ∷ []) ++ es ≡ before ++ e ∷ es = append_assoc before (e ∷ []) es in
    rw (← together) (steady_history run (before ++ e ∷ []) es pfs (rw together legal) (subst (λ (s : State). IsSteadyMaster s pfs) (sym pushed) next))

pub master_throughout : (run : Setting) (events : List Event) (pfs : ℕ) (s : PseudoFileSystem) → IsLegal run events → system_of run.opening pfs ≡ Some s →
    s.role ≡ Master → IsMasterThroughout run events pfs
master_throughout run events pfs s legal found master before rest is =
    steady_history run [] before pfs
    (λ xs x more same. legal xs x (more ++ rest) (is ∙ (ap (λ (es : List Event). es ++ rest) same ∙ append_assoc xs (x ∷ more) rest)))
    (record { system = s; found = found; master = master; unfed = refl })
