-- How many intervals the retentions have in a legal history.
use Rattle.std.proofs.Common.{◌≡◌, ◌≢◌, ℕ, ◌+◌, ◌<◌, ◌≤◌, ◌-◌, ◌^◌, eqb, max, min, true, false, List, [], ◌∷◌, ◌++◌, length, refl, ◌∙◌, ap, sym}
use Rattle.std.proofs.Common.{subst, inl, inr, arith, append_assoc}
use Rattle.std.proofs.lemmas.List.{append-nil}
use Rattle.std.proofs.lemmas.Bool.Decides.{nat_tests}
use Rattle.std.specs.Prelude.{Bool, Option, Some, None, if◌then◌else◌}
use Rattle.std.specs.Bool.{nat_le, nat_lt}
use Rattle.std.specs.List.{list_any}
use Rattle.std.specs.Option.{option_map_or}
use Rattle.hm_types.specs.declared.id.Id.{Id}
use Rattle.hm_types.specs.declared.limits.TheConstants.{MOST_INTERVALS}
use Rattle.hm_retain.proofs.SetLemmas.{less_or_not}
use Rattle.hm_model.specs.declared.command.Command.{Command}
use Rattle.hm_model.specs.declared.command.Command.TheVariants.{End, Prune, PruneAll, Reblock, PfsUpgrade, MirrorRead, MirrorWrite, MirrorCopy}
use Rattle.hm_model.specs.declared.reply.Reply.{Reply}
use Rattle.hm_model.specs.declared.reply.Reply.TheVariants.{TooManyIntervals}
use Rattle.hm_model.specs.After.{Event, OpenCall, State, accepted_effect, after_event, after_pass, call_of, effect, end_effect, end_of_pass, ended}
use Rattle.hm_model.specs.After.{fed_from, given_in, next_stream, no_hash, nothing_merged, of_pfs, on_volume, opened_end, opened_with, opening_state}
use Rattle.hm_model.specs.After.{origin_of, present_only, retaining, stream_origin, upgraded, with_origin, accepted_effect_of}
use Rattle.hm_model.specs.Call.{Call, call_shown, each_located, first_of, first_site, own_id, second_site, site_system, site_tree}
use Rattle.hm_model.specs.Caused.{is_ending, writes_stream}
use Rattle.hm_model.specs.Change.{change, changed, changed_pfs, new_slave}
use Rattle.hm_model.specs.Cut.{cut, join, maximal, pruned, single, snapshot_ids, with_interval, within}
use Rattle.hm_model.specs.Due.{intervals_left, is_tree_call, kept_ids, new_pfs, pruned_count, Check, refuse_if}
use Rattle.hm_types.specs.Hash.{name_hash}
use Rattle.hm_model.specs.Laws.{AreSmall, EndsPass, merges}
use Rattle.hm_model.specs.Legal.{IsLegal, IsPassed, MayFollow, Setting, begin_of, gained_count, joined_count, state_after}
use Rattle.hm_model.specs.Reply.{is_refusal}
use Rattle.hm_model.specs.Sites.{Site, uses_of}
use Rattle.hm_types.specs.Tree.{FileTree, root_tree}
use Rattle.hm_model.specs.View.{Now}
use Rattle.hm_model.specs.Volume.{Local, PseudoFileSystem, Volume, add_version, new_master, system_of}
use Rattle.hm_types.specs.Intervals.{open_end}
use Rattle.hm_model.specs.Walk.{holds}
use Rattle.hm_model.proofs.ChangeLemmas.{new_cases, versioned}
use Rattle.hm_model.proofs.EffectLemmas.{by_role}
use Rattle.hm_model.proofs.EventLemmas.{after_events-push}
use Rattle.hm_model.proofs.GrowthLemmas.{KeepsNumber, found-changed, found-other, found-pushed, found_in, same_or_not}
use Rattle.hm_model.proofs.KeptPastLemmas.{effect-ending}
use Rattle.hm_model.proofs.KnownLemmas.{opening_of}
use Rattle.hm_model.proofs.PassEndLemmas.{passed_legal}
use Rattle.hm_model.proofs.RefusalLemmas.{not_ending}
use Rattle.hm_model.proofs.SteadyLemmas.{same_sites}
use Rattle.hm_model.proofs.TwinEndLemmas.{end_by, pass_by, upgrade_by}

-- one more interval makes a list at most one longer, and maximal intervals are no more
with_le : (new : ℕ × ℕ) (list : List (ℕ × ℕ)) → length (with_interval new list) ≤ length list + 1
with_le new [] = omega arith
with_le new (old ∷ more) = elim (less_or_not (new.1 + 1) old.0) [
  | inl before ↦
      let yes : nat_lt (new.1 + 1) old.0 ≡ true = grind (arith, nat_tests, before) in
      rw yes (omega arith)
  | inr near ↦ elim (less_or_not (old.1 + 1) new.0) [
    | inl after ↦
        let no : nat_lt (new.1 + 1) old.0 ≡ false = grind (arith, nat_tests, near) in
        let yes : nat_lt (old.1 + 1) new.0 ≡ true = grind (arith, nat_tests, after) in
        rw (no, yes) (let rest : length (with_interval new more) ≤ length more + 1 = with_le new more in omega (arith, rest))
    | inr close ↦
        let no : nat_lt (new.1 + 1) old.0 ≡ false = grind (arith, nat_tests, near) in
        let also : nat_lt (old.1 + 1) new.0 ≡ false = grind (arith, nat_tests, close) in
        rw (no, also) (let rest : length (with_interval (min new.0 old.0, max new.1 old.1) more) ≤ length more + 1 =
        with_le (min new.0 old.0, max new.1 old.1) more in omega (arith, rest))
  ]
]

maximal_le : (list : List (ℕ × ℕ)) → length (maximal list) ≤ length list
maximal_le [] = omega arith
maximal_le (x ∷ xs) =
    let rest : length (maximal xs) ≤ length xs = maximal_le xs in
    let more : length (with_interval x (maximal xs)) ≤ length (maximal xs) + 1 = with_le x (maximal xs) in
    omega (arith, rest, more)

within_le : (first last : ℕ) (list : List (ℕ × ℕ)) → length (within first last list) ≤ length list
within_le first last [] = omega arith
within_le first last (x ∷ xs) =
    let rest : length (within first last xs) ≤ length xs = within_le first last xs in
    elim (less_or_not (min last x.1) (max first x.0)) [
      | inl none ↦
          let no : nat_le (max first x.0) (min last x.1) ≡ false = grind (arith, nat_tests, none) in
          rw no (omega (arith, rest))
      | inr some ↦
          let yes : nat_le (max first x.0) (min last x.1) ≡ true = grind (arith, nat_tests, some) in
          rw yes (omega (arith, rest))
    ]

within_none : (first last : ℕ) (list : List (ℕ × ℕ)) → last < first → within first last list ≡ []
within_none first last [] above = refl
within_none first last (x ∷ xs) above =
    let no : nat_le (max first x.0) (min last x.1) ≡ false = grind (arith, nat_tests, above) in
    rw no (within_none first last xs above)

single_one : (list : List (ℕ × ℕ)) (id : ℕ) → length (single list (id ∷ [])) ≤ 1
single_one list id = by (list_any (holds id) list) refl
  where
    by : (test : Bool) → list_any (holds id) list ≡ test → length (single list (id ∷ [])) ≤ 1
    by true is = rw is (omega arith)
    by false is = rw is (omega arith)

-- what `prune-everything` leaves is small
present_small : (id : ℕ) (s : PseudoFileSystem) → length s.retention ≤ MOST_INTERVALS → length (present_only id s).retention ≤ MOST_INTERVALS
present_small id s small =
    by_role (λ (t : PseudoFileSystem). length t.retention ≤ MOST_INTERVALS) (retaining (cut s.retention [] id) s)
    (retaining (cut s.retention (s.sync_end ∷ []) (2 ^ 64)) s) s.role
    (let a : length (cut s.retention [] id) ≤ length (within id open_end s.retention) = maximal_le (within id open_end s.retention) in
    let b : length (within id open_end s.retention) ≤ length s.retention = within_le id open_end s.retention in
    omega (arith, a, b, small))
    (let none : within (2 ^ 64) open_end s.retention ≡ [] = within_none (2 ^ 64) open_end s.retention (omega arith) in
    let a : length (cut s.retention (s.sync_end ∷ []) (2 ^ 64)) ≤ length (single s.retention (s.sync_end ∷ []) ++ within (2 ^ 64) open_end s.retention) =
    maximal_le (single s.retention (s.sync_end ∷ []) ++ within (2 ^ 64) open_end s.retention) in
    let b : length (single s.retention (s.sync_end ∷ []) ++ within (2 ^ 64) open_end s.retention) ≡ length (single s.retention (s.sync_end ∷ [])) =
    ap (λ (xs : List (ℕ × ℕ)). length (single s.retention (s.sync_end ∷ []) ++ xs)) none ∙ ap length (append-nil (single s.retention (s.sync_end ∷ []))) in
    let c : length (single s.retention (s.sync_end ∷ [])) ≤ 1 = single_one s.retention s.sync_end in
    omega (arith, a, b, c))

-- an open end changes no number
opened_length : (list : List (ℕ × ℕ)) → length (opened_end list) ≡ length list
opened_length [] = refl
opened_length (i ∷ []) = refl
opened_length (i ∷ j ∷ is) = let rest : length (opened_end (j ∷ is)) ≡ length (j ∷ is) = opened_length (j ∷ is) in omega (arith, rest)

-- a change of one PFS that leaves it small
small_changed : (volume : Volume) (other : ℕ) (f : PseudoFileSystem → PseudoFileSystem) → KeepsNumber f → AreSmall volume →
    ((s : PseudoFileSystem) → system_of volume other ≡ Some s → length (f s).retention ≤ MOST_INTERVALS) → AreSmall (of_pfs volume other f)
small_changed volume other f keeps small gives pfs t found = elim (same_or_not other pfs) [
  | inl same ↦
      let changed : system_of (of_pfs volume other f) other ≡ option_map_or (λ (s : PseudoFileSystem). Some (f s)) (system_of volume other) None =
      found-changed other f volume.systems keeps in
      by (system_of volume other) refl (sym changed ∙ subst (λ (n : ℕ). system_of (of_pfs volume other f) n ≡ Some t) (sym same) found)
  | inr differ ↦ small pfs t (sym (found-other pfs other f volume.systems keeps differ) ∙ found)
]
  where
    by : (was : Option PseudoFileSystem) → system_of volume other ≡ was → option_map_or (λ (s : PseudoFileSystem). Some (f s)) was None ≡ Some t →
        length t.retention ≤ MOST_INTERVALS
    by None is none = absurd (cc)
    by (Some s) is some = let one : f s ≡ t = cc in subst (λ (u : PseudoFileSystem). length u.retention ≤ MOST_INTERVALS) one (gives s is)

small_same : (volume : Volume) (other : ℕ) (f : PseudoFileSystem → PseudoFileSystem) → KeepsNumber f →
    ((s : PseudoFileSystem) → (f s).retention ≡ s.retention) → AreSmall volume → AreSmall (of_pfs volume other f)
small_same volume other f keeps same small = small_changed volume other f keeps small (λ s found. rw (same s) (small other s found))

small_pushed : (systems : List PseudoFileSystem) (new : PseudoFileSystem) → length new.retention ≤ MOST_INTERVALS →
    ((pfs : ℕ) (s : PseudoFileSystem) → found_in systems pfs ≡ Some s → length s.retention ≤ MOST_INTERVALS) → (pfs : ℕ) (s : PseudoFileSystem) →
    found_in (systems ++ new ∷ []) pfs ≡ Some s → length s.retention ≤ MOST_INTERVALS
small_pushed systems new few small pfs s found = by (found_in systems pfs) refl (sym (found-pushed systems new pfs) ∙ found)
  where
    beside : (test : Bool) → (if test then Some new else None) ≡ Some s → length s.retention ≤ MOST_INTERVALS
    beside true is = let one : new ≡ s = cc in subst (λ (u : PseudoFileSystem). length u.retention ≤ MOST_INTERVALS) one few
    beside false is = absurd (cc)

    by : (was : Option PseudoFileSystem) → found_in systems pfs ≡ was →
        option_map_or (λ (x : PseudoFileSystem). Some x) was (found_in (new ∷ []) pfs) ≡ Some s → length s.retention ≤ MOST_INTERVALS
    by None is some = beside (eqb new.number pfs) some
    by (Some x) is some = let one : x ≡ s = cc in small pfs s (is ∙ ap Some one)

-- a tree call
small_change : (call : Call) → AreSmall call.volume → AreSmall (change call)
small_change call small =
    let tree : FileTree = changed call (call.view (changed_pfs call) Now) in
    let once : AreSmall (versioned call) = small_same call.volume (changed_pfs call) (add_version (own_id call) tree) (λ s. refl) (λ s. refl) small in
    new_cases AreSmall call (versioned call) call.command once
    (λ shared. small_pushed (versioned call).systems (new_master (new_pfs call.volume) shared ((own_id call, root_tree) ∷ [])) (omega arith) once)
    (λ shared. small_pushed (versioned call).systems (new_slave (new_pfs call.volume) shared) (omega arith) once)

-- a prune that is accepted leaves few
abbrev left_by : Command → Call → Check
left_by command call = elim command [
  | Prune p ↦ refuse_if (nat_lt MOST_INTERVALS (pruned_count call)) (TooManyIntervals (min (pruned_count call) (2 ^ 32 - 1)))
  | other ↦ None
]

prune_passes : (command : Command) (path : List ℕ) (call : Call) → command ≡ Prune path → left_by command call ≡ None → pruned_count call ≤ MOST_INTERVALS
prune_passes command path call is fits = by (nat_lt MOST_INTERVALS (pruned_count call)) refl (rw is at fits)
  where
    by : (test : Bool) → nat_lt MOST_INTERVALS (pruned_count call) ≡ test →
        refuse_if (nat_lt MOST_INTERVALS (pruned_count call)) (TooManyIntervals (min (pruned_count call) (2 ^ 32 - 1))) ≡ None →
        pruned_count call ≤ MOST_INTERVALS
    by true test none = absurd (let some : Some (TooManyIntervals (min (pruned_count call) (2 ^ 32 - 1))) ≡ None = rw test at none in cc)
    by false test none = grind (arith, nat_tests, test)

-- what a prune keeps does not hang on the hash of names
abbrev kept_at : Call → Site → List ℕ
kept_at call site = option_map_or (λ (s : PseudoFileSystem). snapshot_ids (site_tree call site) site.at.object (call_shown call s)) (site_system call site) []

abbrev count_at : Call → Site → List ℕ → ℕ
count_at call site ids = option_map_or (λ (s : PseudoFileSystem). length (pruned s.retention ids)) (site_system call site) 0

same_count : (call : Call) (hash : List ℕ → ℕ) → pruned_count (record call { hash = hash }) ≡ pruned_count call
same_count call hash =
    let located : each_located (record call { hash = hash }) (uses_of call.command) call.paths ≡ each_located call (uses_of call.command) call.paths =
    same_sites call hash (uses_of call.command) call.paths in
    let first : first_site (record call { hash = hash }) ≡ first_site call = ap first_of located in
    ap (λ (site : Site). count_at call site (kept_at call site)) first

abbrev IsSmallState : State → Type 0
IsSmallState s = AreSmall s.volume

-- an accepted call
small_accepted : (state : State) (event : Event) (command : Command) → event.entry.call ≡ command →
    intervals_left (call_of name_hash state event) ≡ None → AreSmall state.volume →
    IsSmallState (accepted_effect_of state (call_of no_hash state event) command)
small_accepted state event (Prune path) is fits small =
    let call : Call = call_of no_hash state event in
    let few : pruned_count call ≤ MOST_INTERVALS =
    rw (sym (same_count call name_hash)) (prune_passes event.entry.call path (call_of name_hash state event) is fits) in
    small_changed state.volume (first_site call).at.pfs (λ s. retaining (pruned s.retention (kept_ids call)) s) (λ s. refl) small (λ s found.
    subst (λ (n : ℕ). n ≤ MOST_INTERVALS) (ap
    (λ (x : Option PseudoFileSystem). option_map_or (λ (t : PseudoFileSystem). length (pruned t.retention (kept_ids call))) x 0) found) few)
small_accepted state event (PruneAll path) is fits small =
    let call : Call = call_of no_hash state event in
    small_changed state.volume (first_site call).at.pfs (present_only (own_id call))
    (λ s. by_role (λ (t : PseudoFileSystem). t.number ≡ s.number) (retaining (cut s.retention [] (own_id call)) s)
    (retaining (cut s.retention (s.sync_end ∷ []) (2 ^ 64)) s) s.role refl refl)
    small (λ s found. present_small (own_id call) s (small (first_site call).at.pfs s found))
small_accepted state event (Reblock fill) is fits small = small
small_accepted state event (PfsUpgrade path) is fits small = small
small_accepted state event (MirrorRead path begin) is fits small = small
small_accepted state event (MirrorWrite path) is fits small =
    let pfs : ℕ = (first_site (call_of no_hash state event)).at.pfs in
    small_same state.volume pfs (with_origin (fed_from (origin_of state.volume pfs) (stream_origin (next_stream state.streams)))) (λ s. refl) (λ s. refl) small
small_accepted state event (MirrorCopy master slave limit) is fits small =
    let pfs : ℕ = (second_site (call_of no_hash state event)).at.pfs in
    small_same state.volume pfs (with_origin (fed_from (origin_of state.volume pfs) (Local (first_site (call_of no_hash state event)).at.pfs))) (λ s. refl)
    (λ s. refl) small
small_accepted state event command is fits small = by (is_tree_call command)
  where
    by : (test : Bool) → AreSmall (if test then on_volume state (change (call_of no_hash state event)) else state).volume
    by true = small_change (call_of no_hash state event) small
    by false = small

-- the end of a call
merges_not : (command : Command) → merges command ≡ true → writes_stream command ≡ false
merges_not (MirrorCopy master slave limit) is = refl
merges_not (MirrorWrite path) is = refl
merges_not command is = absurd (cc)

join_small : (volume : Volume) (o : OpenCall) (ending begin end : ℕ) (s : PseudoFileSystem) → merges o.command ≡ true →
    IsPassed volume o ending begin end → system_of volume o.pfs ≡ Some s →
    length (join s.retention (given_in volume o).retention begin end) ≤ MOST_INTERVALS
join_small volume o ending begin end s merging passed found =
    let count : gained_count volume o end ≡ joined_count volume o end =
    ap (λ (test : Bool). if test then 0 else joined_count volume o end) (merges_not o.command merging) in
    let some : joined_count volume o end ≡ length (join s.retention (given_in volume o).retention (begin_of volume o) end) =
    ap (λ (x : Option PseudoFileSystem). option_map_or
    (λ (t : PseudoFileSystem). length (join t.retention (given_in volume o).retention (begin_of volume o) end)) x 0) found in
    let few : length (join s.retention (given_in volume o).retention (begin_of volume o) end) ≤ MOST_INTERVALS = omega (arith, passed.fits, count, some) in
    subst (λ (b : ℕ). length (join s.retention (given_in volume o).retention b end) ≤ MOST_INTERVALS) (sym passed.begins) few

small_end : (run : Setting) (before : List Event) (event : Event) (opening : Id) (o : OpenCall) → MayFollow run before event →
    event.entry.call ≡ End opening → opened_with opening.0 (state_after run before).opened ≡ Some o → AreSmall (state_after run before).volume →
    AreSmall (end_effect (state_after run before).volume event.entry.reply o)
small_end run before event opening o follows call found small =
    end_by AreSmall volume reply o o.command refl small (λ from into limit is. pass (ap merges is)) (λ into is. write (ap merges is) (nothing_merged reply))
    (λ path is. upgrade_by AreSmall volume o reply small
    (small_changed volume o.pfs upgraded (λ s. refl) small
    (λ s there. subst (λ (n : ℕ). n ≤ MOST_INTERVALS) (sym (opened_length s.retention)) (small o.pfs s there))))
  where
    volume : Volume
    volume = (state_after run before).volume

    reply : Reply
    reply = event.entry.reply

    pass : merges o.command ≡ true → AreSmall (end_of_pass (state_after run before).volume o event.entry.reply)
    pass merging = pass_by AreSmall (state_after run before).volume o event.entry.reply small (λ begin end told.
        small_changed (state_after run before).volume o.pfs (after_pass (given_in (state_after run before).volume o) begin.0 end.0) (λ s. refl) small
        (λ s there.
        let ends : EndsPass (state_after run before) event o begin end =
        record { opening = opening; call = call; reply = told; found = found; pass = merging } in
        join_small (state_after run before).volume o event.entry.id.0 begin.0 end.0 s merging (passed_legal run before event o begin end follows ends) there))

    write : merges o.command ≡ true → (test : Bool) →
        AreSmall (if test then of_pfs (state_after run before).volume o.pfs (with_origin o.origin)
        else end_of_pass (state_after run before).volume o event.entry.reply)
    write merging true = small_same (state_after run before).volume o.pfs (with_origin o.origin) (λ s. refl) (λ s. refl) small
    write merging false = pass merging

small_ended : (run : Setting) (before : List Event) (event : Event) (opening : Id) → MayFollow run before event → event.entry.call ≡ End opening →
    AreSmall (state_after run before).volume → AreSmall (ended (state_after run before) opening.0 event.entry.reply).volume
small_ended run before event opening follows call small = by (opened_with opening.0 (state_after run before).opened) refl
  where
    by : (found : Option OpenCall) → opened_with opening.0 (state_after run before).opened ≡ found →
        AreSmall (option_map_or (end_effect (state_after run before).volume event.entry.reply) found (state_after run before).volume)
    by None is = small
    by (Some o) is = small_end run before event opening o follows call is small

-- an event
small_event : (run : Setting) (before : List Event) (event : Event) → MayFollow run before event → AreSmall (state_after run before).volume →
    AreSmall (effect (state_after run before) event).volume
small_event run before event follows small = by (is_ending event.entry.call) refl
  where
    state : State
    state = state_after run before

    call : (test : Bool) → is_refusal event.entry.reply ≡ test →
        AreSmall (if test then state_after run before else accepted_effect (state_after run before) (call_of no_hash (state_after run before) event)).volume
    call true is = small
    call false is = small_accepted (state_after run before) event event.entry.call refl (follows.lands is).fits small

    by : (test : Bool) → is_ending event.entry.call ≡ test → AreSmall (effect (state_after run before) event).volume
    by true is =
        let named = opening_of event.entry.call is in
        subst (λ (s : State). AreSmall s.volume) (sym (effect-ending (state_after run before) event named.0 named.1))
        (small_ended run before event named.0 follows named.1 small)
    by false is =
        let goes : effect (state_after run before) event
        ≡ (if is_refusal event.entry.reply then state_after run before
        else accepted_effect (state_after run before) (call_of no_hash (state_after run before) event)) =
        not_ending (λ opening. ended (state_after run before) opening.0 event.entry.reply)
        (if is_refusal event.entry.reply then state_after run before
        else accepted_effect (state_after run before) (call_of no_hash (state_after run before) event)) event.entry.call is in
        subst (λ (s : State). AreSmall s.volume) (sym goes) (call (is_refusal event.entry.reply) refl)

small_history : (run : Setting) (before es : List Event) → IsLegal run (before ++ es) → AreSmall (state_after run before).volume →
    AreSmall (state_after run (before ++ es)).volume
small_history run before [] legal small = rw append-nil small
small_history run before (e ∷ es) legal small =
    let next : AreSmall (after_event (state_after run before) e).volume = small_event run before e (legal before e es refl) small in
    let pushed : state_after run (before ++ e ∷ []) ≡ after_event (state_after run before) e =
    after_events-push (opening_state run.opening run.foreigners) before e in
    let together : (before ++ e ∷ []) ++ es ≡ before ++ e ∷ es = append_assoc before (e ∷ []) es in
    rw (← together) (small_history run (before ++ e ∷ []) es (rw together legal) (subst (λ (s : State). AreSmall s.volume) (sym pushed) next))

pub AreSmall-legal : (run : Setting) (events : List Event) → IsLegal run events → AreSmall run.opening → AreSmall (state_after run events).volume
AreSmall-legal run events legal small = small_history run [] events legal small
