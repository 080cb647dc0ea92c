-- PFS that are made in a run, from the event on that makes them.
use Rattle.std.proofs.Common.{◌≡◌, ℕ, ◌+◌, ◌≤◌, zero, suc, true, false, List, [], ◌∷◌, ◌++◌, refl, ◌∙◌, ap, sym, subst, arith, append_assoc}
use Rattle.std.proofs.lemmas.List.{append-nil}
use Rattle.std.specs.Prelude.{Bool, Some, None, if◌then◌else◌}
use Rattle.std.specs.Bool.{nat_le}
use Rattle.std.specs.List.{AllByRecursion}
use Rattle.std.proofs.lemmas.Bool.Decides.{nat_tests}
use Rattle.hm_types.specs.declared.text.Text.{Text}
use Rattle.hm_model.specs.declared.command.Command.{Command}
use Rattle.hm_model.specs.declared.command.Command.TheVariants.{MirrorCopy, MirrorWrite, PfsMaster, PfsSlave}
use Rattle.hm_model.specs.After.{Event, OpenCall, State, after_event, after_events, call_of, effect, last_after, no_hash, on_volume, opening_state}
use Rattle.hm_model.specs.Caused.{Known, known_after, known_after_entry, known_at}
use Rattle.hm_model.specs.Change.{change, new_slave}
use Rattle.hm_model.specs.Due.{new_pfs}
use Rattle.hm_model.specs.Laws.{AreRising, BeginBy, FollowsMaster, IsMasterFrom, IsSteadyMaster, IsThere, IsUnfed, Makes, events_to, rewrites, versions_of}
use Rattle.hm_model.specs.Legal.{IsLegal, MayFollow, Setting, state_after}
use Rattle.hm_model.specs.Reply.{is_refusal}
use Rattle.hm_types.specs.Tree.{FileTree, root_tree}
use Rattle.hm_model.specs.Volume.{PseudoFileSystem, Volume, at, new_master, shown, system_of}
use Rattle.hm_model.proofs.EffectLemmas.{Grows-event}
use Rattle.hm_model.proofs.EventLemmas.{IdsFollow, IsLegal-beginning, after_events-push, ids_follow}
use Rattle.hm_model.proofs.FollowLemmas.{twin_follows}
use Rattle.hm_model.proofs.GrowthLemmas.{Grows, versions_in}
use Rattle.hm_model.proofs.MasterLemmas.{IsSteady, begin_grown, shown_then}
use Rattle.hm_model.proofs.NewPfsLemmas.{none-new, system-new_master, system-new_slave}
use Rattle.hm_model.proofs.OpenLemmas.{NamesThere, StandsAfter, StandsAfter-legal, none_unfed}
use Rattle.hm_model.proofs.SourceLemmas.{FedAs}
use Rattle.hm_model.proofs.SteadyLemmas.{steady_history}
use Rattle.hm_model.proofs.TwinHistoryLemmas.{IsTwin, Twin-history}
use Rattle.hm_model.proofs.TwinLemmas.{FedBy, rise_grown}
use Rattle.hm_model.proofs.VersionLemmas.{by_later}

-- a steady master is one from then on
pub steady_from : (run : Setting) (before rest : List Event) (pfs : ℕ) → IsLegal run (before ++ rest) → IsSteadyMaster (state_after run before) pfs →
    IsMasterFrom run before rest pfs
steady_from run before rest pfs legal steady some more is =
    let whole : IsLegal run ((before ++ some) ++ more) = rw (append_assoc, ← is) legal in
    steady_history run before some pfs (IsLegal-beginning run (before ++ some) more whole) steady

-- an event with another call
abbrev with_call : Event → Command → Event
with_call event call = record event { entry = record event.entry { call = call } }

-- what a call that makes a PFS does
does_master : (state : State) (event : Event) (path : Text) (shared : ℕ) (command : Command) → command ≡ PfsMaster path shared →
    effect state (with_call event command) ≡ (if is_refusal event.entry.reply then state
    else on_volume state (change (call_of no_hash state (with_call event command))))
does_master state event path shared command is =
    subst (λ (c : Command). effect state (with_call event c)
    ≡ (if is_refusal event.entry.reply then state else on_volume state (change (call_of no_hash state (with_call event c))))) (sym is) refl

does_slave : (state : State) (event : Event) (path : Text) (shared : ℕ) (command : Command) → command ≡ PfsSlave path shared →
    effect state (with_call event command) ≡ (if is_refusal event.entry.reply then state
    else on_volume state (change (call_of no_hash state (with_call event command))))
does_slave state event path shared command is =
    subst (λ (c : Command). effect state (with_call event c)
    ≡ (if is_refusal event.entry.reply then state else on_volume state (change (call_of no_hash state (with_call event c))))) (sym is) refl

effect_master : (state : State) (event : Event) (path : Text) (shared : ℕ) → Makes event (PfsMaster path shared) →
    effect state event ≡ on_volume state (change (call_of no_hash state event))
effect_master state event path shared makes =
    does_master state event path shared event.entry.call makes.call
    ∙ ap (λ (test : Bool). if test then state else on_volume state (change (call_of no_hash state event))) makes.accepted

pub effect_slave : (state : State) (event : Event) (path : Text) (shared : ℕ) → Makes event (PfsSlave path shared) →
    effect state event ≡ on_volume state (change (call_of no_hash state event))
effect_slave state event path shared makes =
    does_slave state event path shared event.entry.call makes.call
    ∙ ap (λ (test : Bool). if test then state else on_volume state (change (call_of no_hash state event))) makes.accepted

-- the PFS after it
pub made_master : (state : State) (event : Event) (path : Text) (shared : ℕ) → Makes event (PfsMaster path shared) →
    system_of (after_event state event).volume (new_pfs state.volume)
    ≡ Some (new_master (new_pfs state.volume) shared ((state.volume.last + 1, root_tree) ∷ []))
made_master state event path shared makes =
    ap (λ (s : State). system_of s.volume (new_pfs state.volume)) (effect_master state event path shared makes)
    ∙ system-new_master (call_of no_hash state event) path shared makes.call

pub made_slave : (state : State) (event : Event) (path : Text) (shared : ℕ) → Makes event (PfsSlave path shared) →
    system_of (after_event state event).volume (new_pfs state.volume) ≡ Some (new_slave (new_pfs state.volume) shared)
made_slave state event path shared makes =
    ap (λ (s : State). system_of s.volume (new_pfs state.volume)) (effect_slave state event path shared makes)
    ∙ system-new_slave (call_of no_hash state event) path shared makes.call

-- a made master is steady
steady_made : (state : State) (event : Event) (path : Text) (shared : ℕ) → AllByRecursion (NamesThere state.volume) state.opened →
    Makes event (PfsMaster path shared) → IsSteadyMaster (after_event state event) (new_pfs state.volume)
steady_made state event path shared named makes =
    let opened : (after_event state event).opened ≡ state.opened = ap (λ (s : State). s.opened) (effect_master state event path shared makes) in
    let unfed : IsUnfed state (new_pfs state.volume) = none_unfed state.volume (new_pfs state.volume) state.opened (none-new state.volume) named in
    record {
      system = new_master (new_pfs state.volume) shared ((state.volume.last + 1, root_tree) ∷ []);
      found = made_master state event path shared makes;
      master = refl;
      unfed = rw opened unfed;
    }

-- a history that goes on by one event
pub one_more : (run : Setting) (before : List Event) (event : Event) (rest : List Event) → IsLegal run (before ++ event ∷ rest) →
    IsLegal run ((before ++ event ∷ []) ++ rest)
one_more run before event rest legal = rw append_assoc legal

pub state_pushed : (run : Setting) (before : List Event) (event : Event) → state_after run (before ++ event ∷ []) ≡ after_event (state_after run before) event
state_pushed run before event = after_events-push (opening_state run.opening run.foreigners) before event

pub stands_before : (run : Setting) (before : List Event) (event : Event) (rest : List Event) → IsThere run.opening 0 →
    IsLegal run (before ++ event ∷ rest) → StandsAfter run before
stands_before run before event rest root legal = StandsAfter-legal run before root (IsLegal-beginning run before (event ∷ rest) legal)

pub master_made : (run : Setting) (before : List Event) (event : Event) (rest : List Event) (path : Text) (shared : ℕ) → IsThere run.opening 0 →
    IsLegal run (before ++ event ∷ rest) → Makes event (PfsMaster path shared) →
    IsMasterFrom run (before ++ event ∷ []) rest (new_pfs (state_after run before).volume)
master_made run before event rest path shared root legal makes =
    let state : State = state_after run before in
    let steady : IsSteadyMaster (after_event state event) (new_pfs state.volume) =
    steady_made state event path shared (stands_before run before event rest root legal).orderly.named makes in
    steady_from run (before ++ event ∷ []) rest (new_pfs state.volume) (one_more run before event rest legal)
    (subst (λ (s : State). IsSteadyMaster s (new_pfs state.volume)) (sym (state_pushed run before event)) steady)

-- its versions
last_drawn : (run : Setting) (before : List Event) (event : Event) → MayFollow run before event → StandsAfter run before →
    event.entry.id.0 ≡ (state_after run before).volume.last + 1
last_drawn run before event follows stands = follows.caused.id ∙ ap (λ (n : ℕ). n + 1) stands.agrees.last

-- versions that rise and begin by an id
pub record AreInOrder (volume : Volume) (pfs : ℕ) : Type 0 where
  pub rising : AreRising (versions_of volume pfs)
  pub begun : BeginBy volume.last (versions_of volume pfs)

-- over an event
order_event : (state : State) (event : Event) (pfs : ℕ) → IsUnfed state pfs → state.volume.last + 1 ≤ last_after event.entry →
    AreInOrder state.volume pfs → AreInOrder (after_event state event).volume pfs
order_event state event pfs unfed later order =
    let id : ℕ = state.volume.last + 1 in
    let old : List (ℕ × FileTree) = versions_of state.volume pfs in
    let grows : Grows id old (versions_of (after_event state event).volume pfs) = Grows-event state event pfs unfed in
    record {
      rising = rw grows.grown (rise_grown 0 state.volume.last id old grows.more order.rising order.begun (omega arith) (omega arith) grows.begin);
      begun =
          rw grows.grown (begin_grown (last_after event.entry) id old grows.more later
          (by_later state.volume.last (last_after event.entry) old order.begun (omega (arith, later))) grows.begin);
    }

order_history : (state : State) (known : Known) (es : List Event) (pfs : ℕ) → known.last ≡ state.volume.last → IdsFollow known es →
    IsSteady state es pfs → AreInOrder state.volume pfs → AreInOrder (after_events state es).volume pfs
order_history state known [] pfs same follow steady order = order
order_history state known (e ∷ es) pfs same follow steady order =
    order_history (after_event state e) (known_after_entry known e.entry) es pfs refl follow.1
    (λ some rest is. steady (e ∷ some) rest (ap (λ (xs : List Event). e ∷ xs) is))
    (order_event state e pfs (steady [] (e ∷ es) refl).unfed (omega (arith, follow.0, same)) order)

-- the state after two lists of events, and what is known
after_both : (state : State) (before es : List Event) → after_events state (before ++ es) ≡ after_events (after_events state before) es
after_both state [] es = refl
after_both state (b ∷ bs) es = after_both (after_event state b) bs es

steady_is : (run : Setting) (before rest : List Event) (pfs : ℕ) → IsMasterFrom run before rest pfs → IsSteady (state_after run before) rest pfs
steady_is run before rest pfs master some more is =
    subst (λ (s : State). IsSteadyMaster s pfs) (after_both (opening_state run.opening run.foreigners) before some) (master some more is)

pub last_known : (known : Known) (state : State) (before : List Event) → known.last ≡ state.volume.last →
    (known_after known before).last ≡ (after_events state before).volume.last
last_known known state [] same = same
last_known known state (e ∷ es) same = last_known (known_after_entry known e.entry) (after_event state e) es refl

pub order_later : (run : Setting) (before rest : List Event) (pfs : ℕ) → IsLegal run (before ++ rest) → IsMasterFrom run before rest pfs →
    AreInOrder (state_after run before).volume pfs → AreInOrder (state_after run (before ++ rest)).volume pfs
order_later run before rest pfs legal master order =
    let known : Known = known_after (known_at run.opening.last run.start) before in
    rw (after_both (opening_state run.opening run.foreigners) before rest)
    (order_history (state_after run before) known rest pfs
    (last_known (known_at run.opening.last run.start) (opening_state run.opening run.foreigners) before refl) (ids_follow run before rest legal)
    (steady_is run before rest pfs master) order)

pub order_made : (run : Setting) (before : List Event) (event : Event) (path : Text) (shared : ℕ) → IsLegal run (before ++ event ∷ []) →
    Makes event (PfsMaster path shared) → AreInOrder (state_after run (before ++ event ∷ [])).volume (new_pfs (state_after run before).volume)
order_made run before event path shared legal makes =
    let state : State = state_after run before in
    let follows : MayFollow run before event = legal before event [] refl in
    let same : (known_after (known_at run.opening.last run.start) before).last ≡ state.volume.last =
    last_known (known_at run.opening.last run.start) (opening_state run.opening run.foreigners) before refl in
    let versions : versions_of (after_event state event).volume (new_pfs state.volume) ≡ (state.volume.last + 1, root_tree) ∷ [] =
    ap versions_in (made_master state event path shared makes) in
    let drawn : state.volume.last + 1 ≤ last_after event.entry = omega (arith, follows.caused.id, same) in
    let order : AreInOrder (after_event state event).volume (new_pfs state.volume) =
    record { rising = rw versions (omega arith, tt); begun = rw versions (drawn, tt) } in
    subst (λ (s : State). AreInOrder s.volume (new_pfs state.volume)) (sym (state_pushed run before event)) order

-- all events have ids up to a later one
pub last_rises : (known : Known) (es : List Event) → IdsFollow known es → known.last ≤ (known_after known es).last
last_rises known [] follow = omega arith
last_rises known (e ∷ es) follow =
    let later : (known_after_entry known e.entry).last ≤ (known_after (known_after_entry known e.entry) es).last =
    last_rises (known_after_entry known e.entry) es follow.1 in
    omega (arith, follow.0, later)

all_to : (known : Known) (es : List Event) (id : ℕ) → IdsFollow known es → (known_after known es).last ≤ id → events_to id es ≡ es
all_to known [] id follow to = refl
all_to known (e ∷ es) id follow to =
    let later : (known_after_entry known e.entry).last ≤ (known_after (known_after_entry known e.entry) es).last =
    last_rises (known_after_entry known e.entry) es follow.1 in
    let yes : nat_le e.entry.id.0 id ≡ true = grind (arith, nat_tests, later, to) in
    rw yes (ap (λ (xs : List Event). e ∷ xs) (all_to (known_after_entry known e.entry) es id follow.1 to))

events_append : (id : ℕ) (xs ys : List Event) → events_to id (xs ++ ys) ≡ events_to id xs ++ events_to id ys
events_append id [] ys = refl
events_append id (x ∷ xs) ys = by (nat_le x.entry.id.0 id) (events_append id xs ys)
  where
    by : (test : Bool) → events_to id (xs ++ ys) ≡ events_to id xs ++ events_to id ys →
        (if test then x ∷ events_to id (xs ++ ys) else events_to id (xs ++ ys)) ≡ (if test then x ∷ events_to id xs else events_to id xs) ++ events_to id ys
    by true same = ap (λ (zs : List Event). x ∷ zs) same
    by false same = same

-- what a made master has as of an id
pub shown_made : (run : Setting) (before : List Event) (event : Event) (rest : List Event) (path : Text) (shared id : ℕ) → IsThere run.opening 0 →
    IsLegal run (before ++ event ∷ rest) → Makes event (PfsMaster path shared) → event.entry.id.0 ≤ id →
    at (state_after run (before ++ event ∷ rest)).volume (new_pfs (state_after run before).volume) id
    ≡ shown (state_after run (events_to id (before ++ event ∷ rest))).volume (new_pfs (state_after run before).volume)
shown_made run before event rest path shared id root legal makes from =
    let opening : State = opening_state run.opening run.foreigners in
    let state : State = state_after run before in
    let pfs : ℕ = new_pfs state.volume in
    let first : Known = known_at run.opening.last run.start in
    let known : Known = known_after first before in
    let same : known.last ≡ state.volume.last = last_known first opening before refl in
    let follow : IdsFollow known (event ∷ rest) = ids_follow run before (event ∷ rest) legal in
    let front : IdsFollow first before = ids_follow run [] before (IsLegal-beginning run before (event ∷ rest) legal) in
    let versions : versions_of (after_event state event).volume pfs ≡ (state.volume.last + 1, root_tree) ∷ [] =
    ap versions_in (made_master state event path shared makes) in
    let by_last : BeginBy (after_event state event).volume.last (versions_of (after_event state event).volume pfs) =
    rw versions (omega (arith, follow.0, same), tt) in
    let by_id : BeginBy id (versions_of (after_event state event).volume pfs) = rw versions (omega (arith, follow.0, same, from), tt) in
    let master : IsMasterFrom run (before ++ event ∷ []) rest pfs = master_made run before event rest path shared root legal makes in
    let steady : IsSteady (after_event state event) rest pfs =
    subst (λ (s : State). IsSteady s rest pfs) (state_pushed run before event) (steady_is run (before ++ event ∷ []) rest pfs master) in
    let all : events_to id before ≡ before = all_to first before id front (omega (arith, follow.0, from)) in
    let yes : nat_le event.entry.id.0 id ≡ true = grind (arith, nat_tests, from) in
    let events : events_to id (before ++ event ∷ rest) ≡ before ++ event ∷ events_to id rest =
    events_append id before (event ∷ rest) ∙ (ap (λ (xs : List Event). xs ++ events_to id (event ∷ rest)) all
    ∙ ap (λ (test : Bool). before ++ (if test then event ∷ events_to id rest else events_to id rest)) yes) in
    ap (λ (s : State). at s.volume pfs id) (after_both opening before (event ∷ rest))
    ∙ (shown_then (after_event state event) (known_after_entry known event.entry) rest pfs id refl follow.1 steady by_last by_id
    ∙ sym (ap (λ (xs : List Event). shown (state_after run xs).volume pfs) events
    ∙ ap (λ (s : State). shown s.volume pfs) (after_both opening before (event ∷ events_to id rest))))

-- calls that name PFS that are there feed no new one
pub absent : (volume : Volume) (slave : ℕ) (o : OpenCall) → system_of volume slave ≡ None → NamesThere volume o → o.pfs ≡ slave → rewrites o.command
    ≡ true → ⊥
absent volume slave o none named here writes =
    let there = named writes in
    let found : system_of volume slave ≡ Some there.0 = rw (← here) there.1 in
    let wrong : Some there.0 ≡ None = sym found ∙ none in
    cc

fed_absent : (volume : Volume) (slave m : ℕ) (s t : PseudoFileSystem) (o : OpenCall) (command : Command) → o.command ≡ command →
    system_of volume slave ≡ None → NamesThere volume o → o.pfs ≡ slave → FedAs o.master m s t o.origin command
fed_absent volume slave m s t o (MirrorCopy from into limit) is none named here = absurd (absent volume slave o none named here (ap rewrites is))
fed_absent volume slave m s t o (MirrorWrite into) is none named here = absurd (absent volume slave o none named here (ap rewrites is))
fed_absent volume slave m s t o command is none named here = tt

none_feed : (volume : Volume) (slave m : ℕ) (s t : PseudoFileSystem) (os : List OpenCall) → system_of volume slave ≡ None →
    AllByRecursion (NamesThere volume) os → AllByRecursion (FedBy slave m s t) os
none_feed volume slave m s t [] none named = tt
none_feed volume slave m s t (o ∷ os) none named =
    (λ here. fed_absent volume slave m s t o o.command refl none named.0 here, none_feed volume slave m s t os none named.1)

-- a made slave has its twin at once
twin_made : (run : Setting) (before : List Event) (event : Event) (path : Text) (shared m : ℕ) → StandsAfter run before →
    Makes event (PfsSlave path shared) → IsSteadyMaster (after_event (state_after run before) event) m →
    AreInOrder (after_event (state_after run before) event).volume m →
    IsTwin (after_event (state_after run before) event) (new_pfs (state_after run before).volume) m
twin_made run before event path shared m stands makes steady order =
    let state : State = state_after run before in
    let pfs : ℕ = new_pfs state.volume in
    let opened : (after_event state event).opened ≡ state.opened = ap (λ (s : State). s.opened) (effect_slave state event path shared makes) in
    let versions : versions_of (after_event state event).volume m ≡ steady.system.versions = ap versions_in steady.found in
    record {
      own = new_slave pfs shared;
      other = steady.system;
      found = made_slave state event path shared makes;
      found_other = steady.found;
      drawn = omega arith;
      follows = λ role id kept. kept;
      fed = rw opened (none_feed state.volume pfs m (new_slave pfs shared) steady.system state.opened (none-new state.volume) stands.orderly.named);
      one = rw opened stands.orderly.one;
      rising = rw versions at order.rising;
      begun = rw versions at order.begun;
    }

pub follows_made : (run : Setting) (before : List Event) (event : Event) (rest : List Event) (path : Text) (shared m : ℕ) → IsThere run.opening 0 →
    IsLegal run (before ++ event ∷ rest) → Makes event (PfsSlave path shared) → IsMasterFrom run (before ++ event ∷ []) rest m →
    AreInOrder (state_after run (before ++ event ∷ [])).volume m →
    FollowsMaster (state_after run (before ++ event ∷ rest)).volume (new_pfs (state_after run before).volume) m
follows_made run before event rest path shared m root legal makes master order =
    let pfs : ℕ = new_pfs (state_after run before).volume in
    let stands : StandsAfter run before = stands_before run before event rest root legal in
    let whole : IsLegal run ((before ++ event ∷ []) ++ rest) = one_more run before event rest legal in
    let next : StandsAfter run (before ++ event ∷ []) =
    StandsAfter-legal run (before ++ event ∷ []) root (IsLegal-beginning run (before ++ event ∷ []) rest whole) in
    let pushed : state_after run (before ++ event ∷ []) ≡ after_event (state_after run before) event = state_pushed run before event in
    let steady : IsSteadyMaster (after_event (state_after run before) event) m =
    subst (λ (s : State). IsSteadyMaster s m) pushed (rw append-nil at (master [] rest refl)) in
    let twin : IsTwin (after_event (state_after run before) event) pfs m =
    twin_made run before event path shared m stands makes steady (subst (λ (s : State). AreInOrder s.volume m) pushed order) in
    let later : IsTwin (state_after run ((before ++ event ∷ []) ++ rest)) pfs m =
    Twin-history run (before ++ event ∷ []) rest pfs m whole master next.agrees (subst (λ (s : State). IsTwin s pfs m) (sym pushed) twin) in
    twin_follows (state_after run (before ++ event ∷ rest)) pfs m (rw append_assoc at later)
