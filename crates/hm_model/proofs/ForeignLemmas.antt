-- A slave that shows the trees of one foreign source, over a legal history.
use Rattle.std.proofs.Common.{◌≡◌, ℕ, ◌+◌, ◌<◌, ◌≤◌, true, false, List, [], ◌∷◌, ◌++◌, filter, refl, ◌∙◌, ap, sym, subst, inl, inr, arith, eqb, append_assoc}
use Rattle.std.proofs.lemmas.List.{append-nil}
use Rattle.std.proofs.lemmas.Bool.Decides.{nat_tests}
use Rattle.std.specs.Prelude.{◌⊎◌, Bool, Option, Some, None, if◌then◌else◌}
use Rattle.std.specs.List.{AllByRecursion}
use Rattle.std.specs.Option.{option_map_or}
use Rattle.hm_types.specs.declared.id.Id.{Id}
use Rattle.hm_types.specs.declared.text.Text.{Text}
use Rattle.hm_retain.proofs.SetLemmas.{less_or_not}
use Rattle.hm_model.specs.declared.command.Command.{Command}
use Rattle.hm_model.specs.declared.command.Command.TheVariants.{End, MirrorCopy, MirrorRead, MirrorWrite, PfsUpgrade, Prune, PruneAll, Reblock}
use Rattle.hm_model.specs.declared.reply.Reply.TheVariants.{Passed}
use Rattle.hm_model.specs.After.{Event, OpenCall, State, accepted_effect, after_event, after_pass, call_of, effect, end_effect, end_id, end_of_pass}
use Rattle.hm_model.specs.After.{end_of_upgrade, ended, fed_from, given_in, is_origin, last_after, later_streams, next_stream, no_hash}
use Rattle.hm_model.specs.After.{nothing_merged, of_pfs, on_volume, opened_with, origin_of, stream_origin, upgraded, with_origin, accepted_effect_of}
use Rattle.hm_model.specs.Call.{Call, first_site, second_site}
use Rattle.hm_model.specs.Caused.{is_ending, known_after, known_at, possible_for}
use Rattle.hm_model.specs.Change.{change}
use Rattle.hm_model.specs.Due.{is_pass, is_tree_call}
use Rattle.hm_model.specs.Foreign.{Feed, ForeignMaster, no_feed}
use Rattle.hm_model.specs.Laws.{EndsPass, IsThere, ShowsTrees, merges}
use Rattle.hm_model.specs.Legal.{IsBrought, IsLegal, MayFollow, Setting, state_after}
use Rattle.hm_model.specs.Reply.{is_refusal}
use Rattle.hm_types.specs.Tree.{FileTree, no_tree}
use Rattle.hm_model.specs.Volume.{Origin, Nowhere, Local, Foreign, Mixed, PseudoFileSystem, Slave, Volume, as_of, at, system_of}
use Rattle.hm_model.proofs.AgeLemmas.{Ages, AgesIn, ages_accepted}
use Rattle.hm_model.proofs.EffectLemmas.{accepted_cases}
use Rattle.hm_model.proofs.EventLemmas.{IsLegal-beginning}
use Rattle.hm_model.proofs.FollowLemmas.{at_found}
use Rattle.hm_model.proofs.GrowthLemmas.{KeepsNumber, found-changed, found-other, same_or_not}
use Rattle.hm_model.proofs.KeptPastLemmas.{effect-ending}
use Rattle.hm_model.proofs.KnownLemmas.{Agrees, All-still, NoPass, OnePass, OnePass-still, accepted_alone, none_busy, none_still, opening_of}
use Rattle.hm_model.proofs.MadeLemmas.{state_pushed}
use Rattle.hm_model.proofs.OpenLemmas.{StandsAfter, StandsAfter-legal}
use Rattle.hm_model.proofs.PassEndLemmas.{at-streamed, begin_legal, brought_legal, slave-pass}
use Rattle.hm_model.proofs.PassLemmas.{passed-before}
use Rattle.hm_model.proofs.RefusalLemmas.{not_ending}
use Rattle.hm_model.proofs.SourceLemmas.{either_origin}
use Rattle.hm_model.proofs.TwinEndLemmas.{end_by, found_holds, pass_by, upgrade_by}
use Rattle.hm_model.proofs.TwinHistoryLemmas.{no_pass_same}
use Rattle.hm_model.proofs.TwinLemmas.{aged_some, fed_origin, new_call, origin_found}

-- of a source of trees, which ids are spoken of, and the trees that are shown as of them
module _ (source : ℕ) (kept : ℕ → Bool) (trees : ℕ → FileTree) where
  -- what the source of a slave says of its trees
  abbrev pub Follows : PseudoFileSystem → Origin → Type 0
  Follows s Nowhere = s.sync_end ≡ 0
  Follows s (Local n) = Unit {0}
  Follows s (Foreign k) = k ≡ source → (id : ℕ) → kept id ≡ true → 0 < id → id ≤ s.sync_end → as_of id no_tree s.versions ≡ trees id
  Follows s Mixed = Unit {0}

  follows_later : (last : ℕ) (s u : PseudoFileSystem) → Ages last s u → s.sync_end ≤ last → (origin : Origin) → Follows s origin → Follows u origin
  follows_later last s u ages drawn Nowhere follows = ages.sync ∙ follows
  follows_later last s u ages drawn (Local n) follows = tt
  follows_later last s u ages drawn (Foreign k) follows =
      λ same id has some by. ages.trees id (omega (arith, ages.sync, by, drawn)) ∙ follows same id has some (omega (arith, ages.sync, by))
  follows_later last s u ages drawn Mixed follows = tt

  follows_fed : (s : PseudoFileSystem) (old new : Origin) → Follows s old → Follows s (fed_from old new)
  follows_fed s Nowhere Nowhere follows = follows
  follows_fed s Nowhere (Local n) follows = tt
  follows_fed s Nowhere (Foreign k) follows = λ same id has some by. absurd (omega (arith, follows, some, by))
  follows_fed s Nowhere Mixed follows = tt
  follows_fed s (Local n) new follows = either_origin (Follows s) (is_origin (Local n) new) (Local n) Mixed tt tt
  follows_fed s (Foreign k) new follows = either_origin (Follows s) (is_origin (Foreign k) new) (Foreign k) Mixed follows tt
  follows_fed s Mixed new follows = either_origin (Follows s) (is_origin Mixed new) Mixed Mixed tt tt

  follows_source : (last : ℕ) (s u : PseudoFileSystem) → Ages last s u → s.sync_end ≤ last → Follows s s.origin → Follows u u.origin
  follows_source last s u ages drawn follows = elim ages.source [
    | inl same ↦ rw same (follows_later last s u ages drawn s.origin follows)
    | inr fed ↦ rw fed.1 (follows_fed u s.origin fed.0 (follows_later last s u ages drawn s.origin follows))
  ]

  -- a source within the volume, and one that a stream gives
  abbrev pub IsInside : Origin → Type 0
  IsInside Nowhere = ⊥
  IsInside (Local n) = Unit {0}
  IsInside (Foreign k) = ⊥
  IsInside Mixed = Unit {0}

  abbrev pub IsOf : Feed → Origin → Type 0
  IsOf feed Nowhere = ⊥
  IsOf feed (Local n) = ⊥
  IsOf feed (Foreign k) = (m : ForeignMaster) × (feed.master ≡ Some m) × (m.source ≡ k)
  IsOf feed Mixed = Unit {0}

  inside_fed : (old new : Origin) → IsInside old → IsInside (fed_from old new)
  inside_fed Nowhere new is = absurd is
  inside_fed (Local n) new is = either_origin IsInside (is_origin (Local n) new) (Local n) Mixed tt tt
  inside_fed (Foreign k) new is = absurd is
  inside_fed Mixed new is = either_origin IsInside (is_origin Mixed new) Mixed Mixed tt tt

  of_fed : (feed : Feed) (old new : Origin) → IsOf feed old → IsOf feed (fed_from old new)
  of_fed feed Nowhere new is = absurd is
  of_fed feed (Local n) new is = absurd is
  of_fed feed (Foreign k) new is = either_origin (IsOf feed) (is_origin (Foreign k) new) (Foreign k) Mixed is tt
  of_fed feed Mixed new is = either_origin (IsOf feed) (is_origin Mixed new) Mixed Mixed tt tt

  inside_new : (old : Origin) (a : ℕ) → IsInside (fed_from old (Local a))
  inside_new Nowhere a = tt
  inside_new (Local n) a = either_origin IsInside (eqb n a) (Local n) Mixed tt tt
  inside_new (Foreign k) a = tt
  inside_new Mixed a = tt

  of_new : (old : Origin) (feed : Feed) → IsOf feed (fed_from old (stream_origin feed))
  of_new old feed = by feed.master refl
    where
      known : (m : ForeignMaster) → feed.master ≡ Some m → (was : Origin) → IsOf feed (fed_from was (Foreign m.source))
      known m is Nowhere = (m, is, refl)
      known m is (Local n) = tt
      known m is (Foreign k) = same (eqb k m.source) refl
        where
          same : (test : Bool) → eqb k m.source ≡ test → IsOf feed (if test then Foreign k else Mixed)
          same true one = (m, is, grind (arith, nat_tests, one))
          same false one = tt
      known m is Mixed = tt

      unknown : (was : Origin) → IsOf feed (fed_from was Mixed)
      unknown Nowhere = tt
      unknown (Local n) = tt
      unknown (Foreign k) = tt
      unknown Mixed = tt

      by : (found : Option ForeignMaster) → feed.master ≡ found →
          IsOf feed (fed_from old (option_map_or (λ (m : ForeignMaster). Foreign m.source) feed.master Mixed))
      by None is =
          subst (λ (x : Option ForeignMaster). IsOf feed (fed_from old (option_map_or (λ (m : ForeignMaster). Foreign m.source) x Mixed))) (sym is)
          (unknown old)
      by (Some m) is =
          subst (λ (x : Option ForeignMaster). IsOf feed (fed_from old (option_map_or (λ (m : ForeignMaster). Foreign m.source) x Mixed))) (sym is)
          (known m is old)

  -- what an open call says of the slave that it feeds
  abbrev pub FedAs : PseudoFileSystem → Origin → Feed → Command → Type 0
  FedAs s before feed (MirrorCopy from into limit) = IsInside s.origin
  FedAs s before feed (MirrorWrite into) = (s.role ≡ Slave → Follows s before) × ShowsTrees source kept trees feed × IsOf feed s.origin
  FedAs s before feed other = Unit {0}

  abbrev pub FedBy : ℕ → PseudoFileSystem → OpenCall → Type 0
  FedBy slave s o = o.pfs ≡ slave → FedAs s o.origin o.stream o.command

  aged : (P : Origin → Type 0) (last : ℕ) (s u : PseudoFileSystem) → Ages last s u → ((new : Origin) → P (fed_from s.origin new)) → P s.origin → P u.origin
  aged P last s u ages fed same = elim ages.source [ inl is ↦ rw is same | inr new ↦ rw new.1 (fed new.0) ]

  fed_later : (last : ℕ) (s u : PseudoFileSystem) (before : Origin) (feed : Feed) (command : Command) → Ages last s u → s.sync_end ≤ last →
      FedAs s before feed command → FedAs u before feed command
  fed_later last s u before feed (MirrorCopy from into limit) ages drawn is = aged IsInside last s u ages (λ new. inside_fed s.origin new is) is
  fed_later last s u before feed (MirrorWrite into) ages drawn is = (
    λ role. follows_later last s u ages drawn before (is.0 (sym ages.role ∙ role)),
    is.1,
    aged (IsOf feed) last s u ages (λ new. of_fed feed s.origin new is.2) is.2,
  )
  fed_later last s u before feed command ages drawn is = tt

  each_later : (slave last : ℕ) (s u : PseudoFileSystem) (os : List OpenCall) → Ages last s u → s.sync_end ≤ last →
      AllByRecursion (FedBy slave s) os → AllByRecursion (FedBy slave u) os
  each_later slave last s u [] ages drawn fed = tt
  each_later slave last s u (o ∷ os) ages drawn fed =
      (λ is. fed_later last s u o.origin o.stream o.command ages drawn (fed.0 is), each_later slave last s u os ages drawn fed.1)

  -- what the opening of a call does to the slave that it feeds
  abbrev FedNew : State → PseudoFileSystem → PseudoFileSystem → Origin → Feed → Command → Type 0
  FedNew state s u before feed (MirrorCopy from into limit) = IsInside u.origin
  FedNew state s u before feed (MirrorWrite into) = (before ≡ s.origin) × (feed ≡ next_stream state.streams) × IsOf feed u.origin
  FedNew state s u before feed other = Unit {0}

  abbrev OpenedAs : State → Call → State → Type 0
  OpenedAs state call after =
      (after.opened ≡ state.opened)
      ⊎ ((o : OpenCall) × (after.opened ≡ o ∷ state.opened) × (o.command ≡ call.command)
      × ((s u : PseudoFileSystem) → system_of state.volume o.pfs ≡ Some s → system_of after.volume o.pfs ≡ Some u →
      FedNew state s u o.origin o.stream o.command))

  by_command : (state : State) (s u : PseudoFileSystem) (before : Origin) (feed : Feed) (a b : Command) → a ≡ b → FedNew state s u before feed b →
      FedNew state s u before feed a
  by_command state s u before feed a b same is = subst (λ (c : Command). FedNew state s u before feed c) (sym same) is

  opened_as : (state : State) (call : Call) (command : Command) → call.command ≡ command →
      OpenedAs state call (accepted_effect_of state call command)
  opened_as state call (Prune path) is =
      inr (
        new_call state call (first_site call).at.pfs (first_site call).at.pfs no_feed,
        refl,
        refl,
        λ s u found after. by_command state s u (origin_of state.volume (first_site call).at.pfs) no_feed call.command (Prune path) is tt,
      )
  opened_as state call (PruneAll path) is =
      inr (
        new_call state call (first_site call).at.pfs (first_site call).at.pfs no_feed,
        refl,
        refl,
        λ s u found after. by_command state s u (origin_of state.volume (first_site call).at.pfs) no_feed call.command (PruneAll path) is tt,
      )
  opened_as state call (Reblock fill) is =
      inr (
        new_call state call 0 0 no_feed,
        refl,
        refl,
        λ s u found after. by_command state s u (origin_of state.volume 0) no_feed call.command
            (Reblock fill) is tt,
      )
  opened_as state call (PfsUpgrade path) is =
      inr (
        new_call state call (first_site call).at.pfs (first_site call).at.pfs no_feed,
        refl,
        refl,
        λ s u found after. by_command state s u (origin_of state.volume (first_site call).at.pfs) no_feed call.command (PfsUpgrade path) is tt,
      )
  opened_as state call (MirrorRead path begin) is =
      inr (
        new_call state call (first_site call).at.pfs (first_site call).at.pfs no_feed,
        refl,
        refl,
        λ s u found after. by_command state s u (origin_of state.volume (first_site call).at.pfs) no_feed call.command (MirrorRead path begin) is tt,
      )
  opened_as state call (MirrorWrite path) is =
      let a : ℕ = (first_site call).at.pfs in
      let feed : Feed = next_stream state.streams in
      inr (
        new_call state call a a feed,
        refl,
        refl,
        λ s u found after.
            by_command state s u (origin_of state.volume a) feed call.command (MirrorWrite path) is (
              origin_found state.volume a s found,
              refl,
              rw (fed_origin state.volume a (stream_origin feed) s u found after) (of_new (origin_of state.volume a) feed),
            ),
      )
  opened_as state call (MirrorCopy master slave limit) is =
      let a : ℕ = (first_site call).at.pfs in
      let b : ℕ = (second_site call).at.pfs in
      inr (
        new_call state call b a no_feed,
        refl,
        refl,
        λ s u found after.
            by_command state s u (origin_of state.volume b) no_feed call.command (MirrorCopy master slave limit) is
            (rw (fed_origin state.volume b (Local a) s u found after) (inside_new (origin_of state.volume b) a)),
      )
  opened_as state call other is = by (is_tree_call other)
    where
      by : (test : Bool) → OpenedAs state call (if test then on_volume state (change call) else state)
      by true = inl refl
      by false = inl refl

  -- a slave of a volume, with these open calls and these feeds to come, where ids up to `last` were drawn
  pub record IsFed (last : ℕ) (volume : Volume) (opened : List OpenCall) (streams : List Feed) (slave : ℕ) : Type 0 where
    pub own : PseudoFileSystem
    pub found : system_of volume slave ≡ Some own
    pub drawn : own.sync_end ≤ last
    pub follows : own.role ≡ Slave → Follows own own.origin
    pub fed : AllByRecursion (FedBy slave own) opened
    pub one : OnePass opened
    pub shown : AllByRecursion (ShowsTrees source kept trees) streams

  next_shown : (streams : List Feed) → AllByRecursion (ShowsTrees source kept trees) streams → ShowsTrees source kept trees (next_stream streams)
  next_shown [] all = record { rising = λ m is. absurd (cc); same = λ m is. absurd (cc); ends = λ m t is. absurd (cc) }
  next_shown (feed ∷ feeds) all = all.0

  later_shown : (streams : List Feed) → AllByRecursion (ShowsTrees source kept trees) streams →
      AllByRecursion (ShowsTrees source kept trees) (later_streams streams)
  later_shown [] all = tt
  later_shown (feed ∷ feeds) all = all.1

  pub streams_accepted : (state : State) (call : Call) → AllByRecursion (ShowsTrees source kept trees) state.streams →
      AllByRecursion (ShowsTrees source kept trees) (accepted_effect state call).streams
  streams_accepted state call shown =
      accepted_cases (λ (s : State). AllByRecursion (ShowsTrees source kept trees) s.streams) state call call.command shown shown (λ pfs. shown)
      (later_shown state.streams shown) shown (by (is_tree_call call.command))
    where
      by : (test : Bool) → AllByRecursion (ShowsTrees source kept trees) (if test then on_volume state (change call) else state).streams
      by true = shown
      by false = shown

  fed_new : (state : State) (s u : PseudoFileSystem) (before : Origin) (feed : Feed) (command : Command) →
      AllByRecursion (ShowsTrees source kept trees) state.streams → FedNew state s u before feed command → (u.role ≡ Slave → Follows u s.origin) →
      FedAs u before feed command
  fed_new state s u before feed (MirrorCopy from into limit) shown is follows = is
  fed_new state s u before feed (MirrorWrite into) shown is follows = (λ role. rw is.0 (follows role), rw is.1 (next_shown state.streams shown), is.2)
  fed_new state s u before feed command shown is follows = tt

  -- over an accepted call
  fed_accepted : (state : State) (call : Call) (slave : ℕ) → call.volume ≡ state.volume → (is_pass call.command ≡ true → NoPass state.opened) →
      IsFed state.volume.last state.volume state.opened state.streams slave →
      IsFed (state.volume.last + 1) (accepted_effect state call).volume (accepted_effect state call).opened (accepted_effect state call).streams slave
  fed_accepted state call slave same alone is =
      let last : ℕ = state.volume.last in
      let after : State = accepted_effect state call in
      let own_in : AgesIn last (Some is.own) (system_of after.volume slave) = rw is.found at (ages_accepted state call slave same) in
      let u = aged_some last is.own (system_of after.volume slave) own_in in
      let still : AllByRecursion (FedBy slave u.0) state.opened = each_later slave last is.own u.0 state.opened u.2 is.drawn is.fed in
      let as_before : u.0.role ≡ Slave → Follows u.0 is.own.origin =
      λ role. follows_later last is.own u.0 u.2 is.drawn is.own.origin (is.follows (sym u.2.role ∙ role)) in
      let calls : AllByRecursion (FedBy slave u.0) after.opened × OnePass after.opened = elim (opened_as state call call.command refl) [
        | inl none ↦ rw none (still, is.one)
        | inr new ↦ rw new.1 (
          (
            λ here. fed_new state is.own u.0 new.0.origin new.0.stream new.0.command is.shown (new.3 is.own u.0 (rw here is.found) (rw here u.1)) as_before,
            still,
          ),
          (λ pass. alone (rw (← new.2) pass), is.one),
        )
      ] in
      record {
        own = u.0;
        found = u.1;
        drawn = omega (arith, u.2.sync, is.drawn);
        follows = λ role. follows_source last is.own u.0 u.2 is.drawn (is.follows (sym u.2.role ∙ role));
        fed = calls.0;
        one = calls.1;
        shown = streams_accepted state call is.shown;
      }

  -- a slave after an ending
  pub record EndedAs (now : ℕ) (volume : Volume) (slave : ℕ) : Type 0 where
    pub own : PseudoFileSystem
    pub found : system_of volume slave ≡ Some own
    pub drawn : own.sync_end ≤ now
    pub follows : own.role ≡ Slave → Follows own own.origin

  inside_follows : (s : PseudoFileSystem) (origin : Origin) → IsInside origin → Follows s origin
  inside_follows s Nowhere is = absurd is
  inside_follows s (Local n) is = tt
  inside_follows s (Foreign k) is = absurd is
  inside_follows s Mixed is = tt

  follows_with : (s : PseudoFileSystem) (other origin : Origin) → Follows s origin → Follows (with_origin other s) origin
  follows_with s other Nowhere follows = follows
  follows_with s other (Local n) follows = tt
  follows_with s other (Foreign k) follows = follows
  follows_with s other Mixed follows = tt

  ended_changed : (now : ℕ) (volume : Volume) (slave pfs : ℕ) (f : PseudoFileSystem → PseudoFileSystem) (s : PseudoFileSystem) →
      system_of volume slave ≡ Some s → KeepsNumber f → EndedAs now volume slave →
      (pfs ≡ slave → ((f s).sync_end ≤ now) × ((f s).role ≡ Slave → Follows (f s) (f s).origin)) → EndedAs now (of_pfs volume pfs f) slave
  ended_changed now volume slave pfs f s found keeps before gives = elim (same_or_not pfs slave) [
    | inl same ↦
        let after : system_of (of_pfs volume pfs f) slave ≡ Some (f s) =
        ap (λ (n : ℕ). system_of (of_pfs volume n f) slave) same
        ∙ (found-changed slave f volume.systems keeps ∙ ap (λ (x : Option PseudoFileSystem). option_map_or (λ (y : PseudoFileSystem). Some (f y)) x None)
        found) in
        record { own = f s; found = after; drawn = (gives same).0; follows = (gives same).1 }
    | inr differ ↦ record {
      own = before.own;
      found = found-other slave pfs f volume.systems keeps differ ∙ before.found;
      drawn = before.drawn;
      follows =
          before.follows;
    }
  ]

  -- a stream that was read to its end brings the trees
  follows_streamed : (run : Setting) (before : List Event) (event : Event) (o : OpenCall) (begin end : Id) (into : Text) (s : PseudoFileSystem) →
      MayFollow run before event → EndsPass (state_after run before) event o begin end → o.command ≡ MirrorWrite into →
      system_of (state_after run before).volume o.pfs ≡ Some s → begin.0 ≡ s.sync_end → ShowsTrees source kept trees o.stream → (origin : Origin) →
      IsOf o.stream origin → Follows s origin → Follows (after_pass (given_in (state_after run before).volume o) begin.0 end.0 s) origin
  follows_streamed run before event o begin end into s follows ends command found first shows Nowhere is old = absurd is
  follows_streamed run before event o begin end into s follows ends command found first shows (Local n) is old = tt
  follows_streamed run before event o begin end into s follows ends command found first shows (Foreign k) is old =
      λ same id has some by. elim (less_or_not begin.0 id) [
        | inl after ↦
            let state : State = state_after run before in
            let new : PseudoFileSystem = after_pass (given_in state.volume o) begin.0 end.0 s in
            let there : system_of (after_event state event).volume o.pfs ≡ Some new =
            slave-pass state event o begin end ends ∙ ap
            (λ (x : Option PseudoFileSystem). option_map_or (λ (t : PseudoFileSystem). Some (after_pass (given_in state.volume o) begin.0 end.0 t)) x
            None) found in
            let brought : IsBrought o.stream end.0 = brought_legal run before event o begin end into follows ends command in
            let low : brought.term.end ≤ is.0.end = shows.ends is.0 brought.term is.1 brought.taken in
            sym (at_found (after_event state event).volume o.pfs id new there)
            ∙ (at-streamed state event o begin end into s is.0 id ends command found is.1 (shows.rising is.0 is.1 (is.2 ∙ same)) after by
            ∙ shows.same is.0 is.1 (is.2 ∙ same) id has (omega (arith, by, low, brought.named)))
        | inr till ↦
            passed-before s.versions (given_in (state_after run before).volume o) begin.0 end.0 id till
            ∙ old same id has some (omega (arith, till, first))
      ]
  follows_streamed run before event o begin end into s follows ends command found first shows Mixed is old = tt

  -- the end of an open call
  module _ (run : Setting) (before : List Event) (event : Event) (opening : Id) (o : OpenCall) (slave : ℕ) (s : PseudoFileSystem)
      (follow : MayFollow run before event) (call : event.entry.call ≡ End opening) (found : opened_with opening.0 (state_after run before).opened ≡ Some o)
      (of_slave : system_of (state_after run before).volume slave ≡ Some s) (drawn : s.sync_end ≤ last_after event.entry)
      (follows : s.role ≡ Slave → Follows s s.origin)
      (fed : FedBy slave s o) where
    abbrev Then : Volume → Type 0
    Then volume = EndedAs (last_after event.entry) volume slave

    unchanged : Then (state_after run before).volume
    unchanged = record { own = s; found = of_slave; drawn = drawn; follows = follows }

    till : (begin end : Id) → event.entry.reply ≡ Passed begin end → end.0 ≤ last_after event.entry
    till begin end told = let is : end_id event.entry.reply ≡ end.0 = ap end_id told in omega (arith, is)

    copy : (from into : Text) (limit : Option ℕ) → o.command ≡ MirrorCopy from into limit →
        Then (end_of_pass (state_after run before).volume o event.entry.reply)
    copy from into limit is = pass_by Then (state_after run before).volume o event.entry.reply unchanged (λ begin end told.
        ended_changed (last_after event.entry) (state_after run before).volume slave o.pfs
        (after_pass (given_in (state_after run before).volume o) begin.0 end.0) s of_slave (λ x. refl) unchanged (λ same. (
          till begin end told,
          λ role. inside_follows (after_pass (given_in (state_after run before).volume o) begin.0 end.0 s) s.origin
              (subst (λ (c : Command). FedAs s o.origin o.stream c) is (fed same)),
        )))

    write : (into : Text) → o.command ≡ MirrorWrite into → (test : Bool) →
        Then (if test then of_pfs (state_after run before).volume o.pfs (with_origin o.origin)
        else end_of_pass (state_after run before).volume o event.entry.reply)
    write into is true =
        ended_changed (last_after event.entry) (state_after run before).volume slave o.pfs (with_origin o.origin) s of_slave (λ x. refl) unchanged (λ same.
        (drawn, λ role. follows_with s o.origin o.origin ((subst (λ (c : Command). FedAs s o.origin o.stream c) is (fed same)).0 role)))
    write into is false = pass_by Then (state_after run before).volume o event.entry.reply unchanged (λ begin end told.
        ended_changed (last_after event.entry) (state_after run before).volume slave o.pfs
        (after_pass (given_in (state_after run before).volume o) begin.0 end.0) s of_slave (λ x. refl) unchanged (λ same.
        let as_fed : (s.role ≡ Slave → Follows s o.origin) × ShowsTrees source kept trees o.stream × IsOf o.stream s.origin =
        subst (λ (c : Command). FedAs s o.origin o.stream c) is (fed same) in
        let there : system_of (state_after run before).volume o.pfs ≡ Some s = rw same of_slave in
        let ends : EndsPass (state_after run before) event o begin end =
        record { opening = opening; call = call; reply = told; found = found; pass = ap merges is } in
        let first : begin.0 ≡ s.sync_end = begin_legal run before event o begin end follow ends ∙ rw (is, there) refl in (
          till begin end told,
          λ role. follows_streamed run before event o begin end into s follow ends is there first as_fed.1 s.origin as_fed.2
              (follows role),
        )))

    upgrade : Then (end_of_upgrade (state_after run before).volume o event.entry.reply)
    upgrade = upgrade_by Then (state_after run before).volume o event.entry.reply unchanged
        (ended_changed (last_after event.entry) (state_after run before).volume slave o.pfs upgraded s of_slave (λ x. refl) unchanged
        (λ same. (omega arith, λ role. absurd (cc))))

    pub fed-end : Then (end_effect (state_after run before).volume event.entry.reply o)
    fed-end =
        end_by Then (state_after run before).volume event.entry.reply o o.command refl unchanged copy
        (λ into is. write into is (nothing_merged event.entry.reply)) (λ path is. upgrade)

  none_fed : (slave : ℕ) (s : PseudoFileSystem) (os : List OpenCall) → NoPass os → AllByRecursion (FedBy slave s) os
  none_fed slave s [] none = tt
  none_fed slave s (o ∷ os) none = (λ here. no_pass s o.origin o.stream o.command none.0, none_fed slave s os none.1)
    where
      no_pass : (s : PseudoFileSystem) (before : Origin) (feed : Feed) (command : Command) → is_pass command ≡ false → FedAs s before feed command
      no_pass s before feed (MirrorCopy from into limit) is = absurd (cc)
      no_pass s before feed (MirrorWrite into) is = absurd (cc)
      no_pass s before feed command is = tt

  -- over an ending
  fed_ended : (run : Setting) (before : List Event) (event : Event) (opening : Id) (slave : ℕ) → MayFollow run before event →
      event.entry.call ≡ End opening → (state_after run before).volume.last ≤ last_after event.entry →
      IsFed (state_after run before).volume.last (state_after run before).volume (state_after run before).opened (state_after run before).streams slave →
      IsFed (last_after event.entry) (ended (state_after run before) opening.0 event.entry.reply).volume
      (ended (state_after run before) opening.0 event.entry.reply).opened (ended (state_after run before) opening.0 event.entry.reply).streams slave
  fed_ended run before event opening slave follow call later is = by (opened_with opening.0 (state_after run before).opened) refl
    where
      state : State
      state = state_after run before

      now : ℕ
      now = last_after event.entry

      rest : List OpenCall
      rest = filter (λ (o : OpenCall). if eqb o.opening opening.0 then false else true) (state_after run before).opened

      still : AllByRecursion (FedBy slave is.own) (filter (λ (o : OpenCall). if eqb o.opening opening.0 then false else true) (state_after run before).opened)
      still = All-still (FedBy slave is.own) opening.0 (state_after run before).opened is.fed

      one : OnePass (filter (λ (o : OpenCall). if eqb o.opening opening.0 then false else true) (state_after run before).opened)
      one = OnePass-still opening.0 (state_after run before).opened is.one

      each : (o : OpenCall) → opened_with opening.0 (state_after run before).opened ≡ Some o → (test : Bool) → is_pass o.command ≡ test →
          IsFed (last_after event.entry) (end_effect (state_after run before).volume event.entry.reply o)
          (filter (λ (x : OpenCall). if eqb x.opening opening.0 then false else true) (state_after run before).opened) (state_after run before).streams
          slave
      each o found true pass =
          let end : EndedAs (last_after event.entry) (end_effect (state_after run before).volume event.entry.reply o) slave =
          fed-end run before event opening o slave is.own follow call found is.found (omega (arith, is.drawn, later)) is.follows
          (found_holds (FedBy slave is.own) (λ (x : OpenCall). eqb x.opening opening.0) (state_after run before).opened o found is.fed) in
          let none : NoPass (filter (λ (x : OpenCall). if eqb x.opening opening.0 then false else true) (state_after run before).opened) =
          none_still opening.0 (state_after run before).opened o is.one found pass in
          record {
            own = end.own;
            found = end.found;
            drawn = end.drawn;
            follows = end.follows;
            fed =
                none_fed slave end.own (filter (λ (x : OpenCall). if eqb x.opening opening.0 then false else true) (state_after run before).opened) none;
            one = one;
            shown = is.shown;
          }
      each o found false pass =
          subst (λ (v : Volume). IsFed (last_after event.entry) v
          (filter (λ (x : OpenCall). if eqb x.opening opening.0 then false else true) (state_after run before).opened) (state_after run before).streams
          slave) (sym (no_pass_same (state_after run before).volume event.entry.reply o o.command pass))
          (record { own = is.own; found = is.found; drawn = omega (arith, is.drawn, later); follows = is.follows; fed = still; one = one; shown = is.shown })

      by : (found : Option OpenCall) → opened_with opening.0 (state_after run before).opened ≡ found →
          IsFed (last_after event.entry) (option_map_or (end_effect (state_after run before).volume event.entry.reply) found
          (state_after run before).volume) (filter (λ (x : OpenCall). if eqb x.opening opening.0 then false else true) (state_after run before).opened)
          (state_after run before).streams slave
      by None none =
          record { own = is.own; found = is.found; drawn = omega (arith, is.drawn, later); follows = is.follows; fed = still; one = one; shown = is.shown }
      by (Some o) some = each o some (is_pass o.command) refl

  -- the same of a state
  abbrev pub IsFedIn : State → ℕ → Type 0
  IsFedIn state slave = IsFed state.volume.last state.volume state.opened state.streams slave

  -- over an event
  fed_event : (run : Setting) (before : List Event) (event : Event) (slave : ℕ) → MayFollow run before event →
      Agrees (known_after (known_at run.opening.last run.start) before) (state_after run before) → IsFedIn (state_after run before) slave →
      IsFedIn (after_event (state_after run before) event) slave
  fed_event run before event slave follow agrees is = whole (by (is_ending event.entry.call) refl)
    where
      own : event.entry.id.0 ≡ (state_after run before).volume.last + 1
      own = follow.caused.id ∙ ap (λ (n : ℕ). n + 1) agrees.last

      whole :
          IsFed (last_after event.entry) (effect (state_after run before) event).volume (effect (state_after run before) event).opened
          (effect (state_after run before) event).streams slave →
          IsFedIn (after_event (state_after run before) event) slave
      whole fed = record { own = fed.own; found = fed.found; drawn = fed.drawn; follows = fed.follows; fed = fed.fed; one = fed.one; shown = fed.shown }

      later : (n : ℕ) (s : State) → n ≤ last_after event.entry → IsFed n s.volume s.opened s.streams slave →
          IsFed (last_after event.entry) s.volume s.opened s.streams slave
      later n s most fed =
          record {
            own = fed.own;
            found = fed.found;
            drawn = omega (arith, fed.drawn, most);
            follows = fed.follows;
            fed = fed.fed;
            one = fed.one;
            shown =
                fed.shown;
          }

      call : (test : Bool) → is_refusal event.entry.reply ≡ test →
          IsFed (last_after event.entry) (if test then state_after run before
          else accepted_effect (state_after run before) (call_of no_hash (state_after run before) event)).volume
          (if test then state_after run before else accepted_effect (state_after run before) (call_of no_hash (state_after run before) event)).opened
          (if test then state_after run before else accepted_effect (state_after run before) (call_of no_hash (state_after run before) event)).streams slave
      call true refused = later (state_after run before).volume.last (state_after run before) (omega (arith, own)) is
      call false accepted =
          later ((state_after run before).volume.last + 1) (accepted_effect (state_after run before) (call_of no_hash (state_after run before) event))
          (omega (arith, own))
          (fed_accepted (state_after run before) (call_of no_hash (state_after run before) event) slave refl
          (λ pass. none_busy (state_after run before).opened
          (rw agrees.opened at (accepted_alone (known_after (known_at run.opening.last run.start) before) event
          (possible_for (known_after (known_at run.opening.last run.start) before) event) follow.caused.possible accepted pass))) is)

      by : (test : Bool) → is_ending event.entry.call ≡ test →
          IsFed (last_after event.entry) (effect (state_after run before) event).volume (effect (state_after run before) event).opened
          (effect (state_after run before) event).streams slave
      by true ending =
          let named = opening_of event.entry.call ending in
          subst (λ (s : State). IsFed (last_after event.entry) s.volume s.opened s.streams slave)
          (sym (effect-ending (state_after run before) event named.0 named.1))
          (fed_ended run before event named.0 slave follow named.1 (omega (arith, own)) is)
      by false ending =
          let goes : effect (state_after run before) event
          ≡ (if is_refusal event.entry.reply then state_after run before
          else accepted_effect (state_after run before) (call_of no_hash (state_after run before) event)) =
          not_ending (λ opening. ended (state_after run before) opening.0 event.entry.reply)
          (if is_refusal event.entry.reply then state_after run before
          else accepted_effect (state_after run before) (call_of no_hash (state_after run before) event)) event.entry.call ending in
          subst (λ (s : State). IsFed (last_after event.entry) s.volume s.opened s.streams slave) (sym goes) (call (is_refusal event.entry.reply) refl)

  pub fed_history : (run : Setting) (before es : List Event) (slave : ℕ) → IsThere run.opening 0 → IsLegal run (before ++ es) →
      IsFedIn (state_after run before) slave → IsFedIn (state_after run (before ++ es)) slave
  fed_history run before [] slave root legal is = rw append-nil is
  fed_history run before (e ∷ es) slave root legal is =
      let stands : StandsAfter run before = StandsAfter-legal run before root (IsLegal-beginning run before (e ∷ es) legal) in
      let next : IsFedIn (after_event (state_after run before) e) slave = fed_event run before e slave (legal before e es refl) stands.agrees is in
      let together : (before ++ e ∷ []) ++ es ≡ before ++ e ∷ es = append_assoc before (e ∷ []) es in
      rw (← together) (fed_history run (before ++ e ∷ []) es slave root (rw together legal)
      (subst (λ (s : State). IsFedIn s slave) (sym (state_pushed run before e)) next))
