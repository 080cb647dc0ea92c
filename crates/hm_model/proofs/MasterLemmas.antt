-- What a master shows over a history.
use Rattle.std.proofs.Common.{◌≡◌, ℕ, ◌+◌, ◌≤◌, max, true, false, List, [], ◌∷◌, ◌++◌, refl, ◌∙◌, ap, sym, inl, inr, arith}
use Rattle.std.specs.Bool.{nat_le}
use Rattle.std.specs.List.{AllByRecursion}
use Rattle.std.proofs.lemmas.Bool.Decides.{nat_tests}
use Rattle.hm_retain.proofs.SetLemmas.{less_or_not}
use Rattle.hm_model.specs.After.{Event, State, after_event, after_events, last_after, opening_state}
use Rattle.hm_model.specs.Caused.{Known, known_after_entry, known_at}
use Rattle.hm_model.specs.Laws.{BeginBy, IsMasterThroughout, IsSteadyMaster, IsUnfed, events_to, versions_of}
use Rattle.hm_model.specs.Legal.{IsLegal, Setting, state_after}
use Rattle.hm_types.specs.Tree.{FileTree, no_tree}
use Rattle.hm_model.specs.Volume.{as_of, at, shown}
use Rattle.hm_model.proofs.EffectLemmas.{Grows-event}
use Rattle.hm_model.proofs.EventLemmas.{IdsFollow, ids_follow}
use Rattle.hm_model.proofs.GrowthLemmas.{Grows, at-grown}
use Rattle.hm_model.proofs.VersionLemmas.{as_of-later, by_later}

-- the trees as of ids that were drawn stay
pub at-event : (state : State) (event : Event) (pfs id : ℕ) → IsUnfed state pfs → id ≤ state.volume.last →
    at (after_event state event).volume pfs id ≡ at state.volume pfs id
at-event state event pfs id unfed drawn =
    at-grown state.volume (after_event state event).volume pfs id (state.volume.last + 1) (omega arith) (Grows-event state event pfs unfed)

-- versions that grow begin by an id still
begin_more : (bound id : ℕ) (more : List (ℕ × FileTree)) → id ≤ bound → AllByRecursion (λ (v : ℕ × FileTree). v.0 ≡ id) more → BeginBy bound more
begin_more bound id [] le all = tt
begin_more bound id (v ∷ vs) le all = (omega (arith, all.0), begin_more bound id vs le all.1)

pub begin_grown : (bound id : ℕ) (old more : List (ℕ × FileTree)) → id ≤ bound → BeginBy bound old → AllByRecursion (λ (v : ℕ × FileTree). v.0 ≡ id) more →
    BeginBy bound (old ++ more)
begin_grown bound id [] more le begin all = begin_more bound id more le all
begin_grown bound id (v ∷ vs) more le begin all = (begin.0, begin_grown bound id vs more le begin.1 all)

begin_event : (state : State) (event : Event) (pfs bound : ℕ) → IsUnfed state pfs → state.volume.last + 1 ≤ bound →
    BeginBy bound (versions_of state.volume pfs) → BeginBy bound (versions_of (after_event state event).volume pfs)
begin_event state event pfs bound unfed le begin =
    let grows : Grows (state.volume.last + 1) (versions_of state.volume pfs) (versions_of (after_event state event).volume pfs) =
    Grows-event state event pfs unfed in
    rw grows.grown (begin_grown bound (state.volume.last + 1) (versions_of state.volume pfs) grows.more le begin grows.begin)

-- from the last version on the same tree is shown
settled : (t u : ℕ) (versions : List (ℕ × FileTree)) → BeginBy t versions → BeginBy u versions → as_of t no_tree versions ≡ as_of u no_tree versions
settled t u versions by_t by_u = sym (as_of-later t (max t u) no_tree versions by_t (omega arith)) ∙ as_of-later u (max t u) no_tree versions by_u (omega arith)

-- a master shows its last version
shown_now : (state : State) (pfs id : ℕ) → IsSteadyMaster state pfs → BeginBy state.volume.last (versions_of state.volume pfs) →
    BeginBy id (versions_of state.volume pfs) → at state.volume pfs id ≡ shown state.volume pfs
shown_now state pfs id steady by_last by_id =
    let begin : BeginBy state.volume.last steady.system.versions = rw steady.found at by_last in
    let also : BeginBy id steady.system.versions = rw steady.found at by_id in
    rw (steady.found, steady.master) (settled id state.volume.last steady.system.versions also begin)

-- what a PFS is at each beginning of some events
abbrev pub IsSteady : State → List Event → ℕ → Type 0
IsSteady state events pfs = (before rest : List Event) → events ≡ before ++ rest → IsSteadyMaster (after_events state before) pfs

later : (state : State) (e : Event) (es : List Event) (pfs : ℕ) → IsSteady state (e ∷ es) pfs → IsSteady (after_event state e) es pfs
later state e es pfs steady before rest is = steady (e ∷ before) rest (ap (λ (xs : List Event). e ∷ xs) is)

-- the past stays over a history
past_stays : (state : State) (known : Known) (es : List Event) (pfs id : ℕ) → known.last ≡ state.volume.last → IdsFollow known es → IsSteady state es pfs →
    id ≤ state.volume.last → at (after_events state es).volume pfs id ≡ at state.volume pfs id
past_stays state known [] pfs id same follow steady drawn = refl
past_stays state known (e ∷ es) pfs id same follow steady drawn =
    past_stays (after_event state e) (known_after_entry known e.entry) es pfs id refl follow.1 (later state e es pfs steady) (omega (arith, follow.0))
    ∙ at-event state e pfs id (steady [] (e ∷ es) refl).unfed drawn

-- no later event has an id that was drawn
pub none_to : (known : Known) (es : List Event) (id : ℕ) → IdsFollow known es → id ≤ known.last → events_to id es ≡ []
none_to known [] id follow drawn = refl
none_to known (e ∷ es) id follow drawn =
    let no : nat_le e.entry.id.0 id ≡ false = grind (arith, nat_tests, follow.0) in
    rw no (none_to (known_after_entry known e.entry) es id follow.1 (omega (arith, follow.0)))

-- the tree as of an id is the one shown after the events up to it
pub shown_then : (state : State) (known : Known) (es : List Event) (pfs id : ℕ) → known.last ≡ state.volume.last → IdsFollow known es →
    IsSteady state es pfs → BeginBy state.volume.last (versions_of state.volume pfs) → BeginBy id (versions_of state.volume pfs) →
    at (after_events state es).volume pfs id ≡ shown (after_events state (events_to id es)).volume pfs
shown_then state known [] pfs id same follow steady by_last by_id = shown_now state pfs id (steady [] [] refl) by_last by_id
shown_then state known (e ∷ es) pfs id same follow steady by_last by_id = elim (less_or_not id e.entry.id.0) [
  | inl less ↦
      let none : events_to id (e ∷ es) ≡ [] = none_to known (e ∷ es) id follow (omega (arith, follow.0)) in
      rw none (past_stays state known (e ∷ es) pfs id same follow steady (omega (arith, follow.0))
      ∙ shown_now state pfs id (steady [] (e ∷ es) refl) by_last by_id)
  | inr from ↦
      let yes : nat_le e.entry.id.0 id ≡ true = grind (arith, nat_tests, from) in
      let unfed : IsUnfed state pfs = (steady [] (e ∷ es) refl).unfed in
      rw yes (shown_then (after_event state e) (known_after_entry known e.entry) es pfs id refl follow.1 (later state e es pfs steady)
      (begin_event state e pfs (last_after e.entry) unfed (omega (arith, follow.0))
      (by_later state.volume.last (last_after e.entry) (versions_of state.volume pfs) by_last (omega (arith, follow.0))))
      (begin_event state e pfs id unfed (omega (arith, follow.0, from)) by_id))
]

pub shown-legal : (run : Setting) (events : List Event) (pfs id : ℕ) → IsLegal run events → IsMasterThroughout run events pfs →
    BeginBy run.opening.last (versions_of run.opening pfs) → run.opening.last ≤ id →
    at (state_after run events).volume pfs id ≡ shown (state_after run (events_to id events)).volume pfs
shown-legal run events pfs id legal master begin from =
    shown_then (opening_state run.opening run.foreigners) (known_at run.opening.last run.start) events pfs id refl (ids_follow run [] events legal) master
    begin (by_later run.opening.last id (versions_of run.opening pfs) begin from)
