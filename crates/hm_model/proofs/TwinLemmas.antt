-- A slave that shows its master's trees, over accepted calls.
use Rattle.std.proofs.Common.{◌≡◌, ℕ, ◌+◌, ◌≤◌, true, false, List, [], ◌∷◌, ◌++◌, refl, ◌∙◌, ap, sym, subst, inl, inr, arith}
use Rattle.std.specs.Prelude.{◌⊎◌, Bool, Option, Some, None, if◌then◌else◌}
use Rattle.std.specs.List.{AllByRecursion}
use Rattle.std.specs.Option.{option_map_or}
use Rattle.hm_model.specs.declared.command.Command.{Command}
use Rattle.hm_model.specs.declared.command.Command.TheVariants.{Prune, PruneAll, Reblock, PfsUpgrade, MirrorRead, MirrorWrite, MirrorCopy}
use Rattle.hm_model.specs.After.{OpenCall, State, accepted_effect, fed_from, next_stream, of_pfs, on_volume, origin_of, stream_origin, with_origin}
use Rattle.hm_model.specs.After.{accepted_effect_of}
use Rattle.hm_model.specs.Call.{Call, first_site, own_id, second_site}
use Rattle.hm_model.specs.Change.{change}
use Rattle.hm_model.specs.Due.{is_pass, is_tree_call}
use Rattle.hm_model.specs.Foreign.{Feed, no_feed}
use Rattle.hm_model.specs.Laws.{AreRising, BeginBy, RiseFrom, versions_of}
use Rattle.hm_types.specs.Tree.{FileTree}
use Rattle.hm_model.specs.Volume.{Origin, Nowhere, Local, PseudoFileSystem, Slave, Volume, system_of}
use Rattle.hm_model.proofs.AgeLemmas.{Ages, AgesIn, ages_accepted}
use Rattle.hm_model.proofs.EffectLemmas.{accepted_grows}
use Rattle.hm_model.proofs.GrowthLemmas.{Grows, found-changed, versions_in}
use Rattle.hm_model.proofs.KnownLemmas.{NoPass, OnePass}
use Rattle.hm_model.proofs.MasterLemmas.{begin_grown}
use Rattle.hm_model.proofs.SourceLemmas.{FedAs, FedNew, Follows, fed_later, fed_new, follows_later, follows_source, outside_new, source_new}
use Rattle.hm_model.proofs.VersionLemmas.{by_later}

-- an open call says of a slave what it says of the one that it feeds
abbrev pub FedBy : ℕ → ℕ → PseudoFileSystem → PseudoFileSystem → OpenCall → Type 0
FedBy slave m s t o = o.pfs ≡ slave → FedAs o.master m s t o.origin o.command

-- a slave and a master of a volume, with these open calls, where ids up to `last` were drawn
pub record Twin (last : ℕ) (volume : Volume) (opened : List OpenCall) (slave m : ℕ) : Type 0 where
  pub own : PseudoFileSystem
  pub other : PseudoFileSystem
  pub found : system_of volume slave ≡ Some own
  pub found_other : system_of volume m ≡ Some other
  pub drawn : own.sync_end ≤ last
  pub follows : own.role ≡ Slave → Follows m own other own.origin
  pub fed : AllByRecursion (FedBy slave m own other) opened
  pub one : OnePass opened
  pub rising : AreRising other.versions
  pub begun : BeginBy last other.versions

-- a state has as many open calls, or one more
abbrev pub OpenedAs : State → Call → State → Type 0
OpenedAs state call after =
    (after.opened ≡ state.opened)
    ⊎ ((o : OpenCall) × (after.opened ≡ o ∷ state.opened) × (o.command ≡ call.command)
    × ((s u : PseudoFileSystem) → system_of state.volume o.pfs ≡ Some s → system_of after.volume o.pfs ≡ Some u → FedNew o.master s u o.origin o.command))

-- the source of a slave that is fed from here on
pub fed_origin : (volume : Volume) (pfs : ℕ) (fed : Origin) (s u : PseudoFileSystem) → system_of volume pfs ≡ Some s →
    system_of (of_pfs volume pfs (with_origin (fed_from (origin_of volume pfs) fed))) pfs ≡ Some u → u.origin ≡ fed_from (origin_of volume pfs) fed
fed_origin volume pfs fed s u found after =
    let new : PseudoFileSystem = with_origin (fed_from (origin_of volume pfs) fed) s in
    let is : system_of (of_pfs volume pfs (with_origin (fed_from (origin_of volume pfs) fed))) pfs ≡ Some new =
    found-changed pfs (with_origin (fed_from (origin_of volume pfs) fed)) volume.systems (λ x. refl)
    ∙ ap (λ (x : Option PseudoFileSystem). option_map_or (λ (y : PseudoFileSystem). Some (with_origin (fed_from (origin_of volume pfs) fed) y)) x None) found in
    let same : Some u ≡ Some new = sym after ∙ is in
    let one : u ≡ new = cc in
    ap (λ (x : PseudoFileSystem). x.origin) one

pub origin_found : (volume : Volume) (pfs : ℕ) (s : PseudoFileSystem) → system_of volume pfs ≡ Some s → origin_of volume pfs ≡ s.origin
origin_found volume pfs s found = ap (λ (x : Option PseudoFileSystem). option_map_or (λ (y : PseudoFileSystem). y.origin) x Nowhere) found

-- the call that is opened
abbrev pub new_call : State → Call → ℕ → ℕ → Feed → OpenCall
new_call state call pfs master stream = record {
  opening = own_id call;
  command = call.command;
  pfs = pfs;
  master = master;
  origin = origin_of state.volume pfs;
  stream = stream;
}

by_command : (n : ℕ) (s u : PseudoFileSystem) (before : Origin) (a b : Command) → a ≡ b → FedNew n s u before b → FedNew n s u before a
by_command n s u before a b same is = subst (λ (c : Command). FedNew n s u before c) (sym same) is

-- what an accepted call opens
opened_as : (state : State) (call : Call) (command : Command) → call.command ≡ command →
    OpenedAs state call (accepted_effect_of state call command)
opened_as state call (Prune path) is =
    inr (
      new_call state call (first_site call).at.pfs (first_site call).at.pfs no_feed,
      refl,
      refl,
      λ s u found after. by_command (first_site call).at.pfs s u (origin_of state.volume (first_site call).at.pfs) call.command (Prune path) is tt,
    )
opened_as state call (PruneAll path) is =
    inr (
      new_call state call (first_site call).at.pfs (first_site call).at.pfs no_feed,
      refl,
      refl,
      λ s u found after. by_command (first_site call).at.pfs s u (origin_of state.volume (first_site call).at.pfs) call.command (PruneAll path) is tt,
    )
opened_as state call (Reblock fill) is =
    inr (new_call state call 0 0 no_feed, refl, refl, λ s u found after. by_command 0 s u (origin_of state.volume 0) call.command (Reblock fill) is tt)
opened_as state call (PfsUpgrade path) is =
    inr (
      new_call state call (first_site call).at.pfs (first_site call).at.pfs no_feed,
      refl,
      refl,
      λ s u found after. by_command (first_site call).at.pfs s u (origin_of state.volume (first_site call).at.pfs) call.command (PfsUpgrade path) is tt,
    )
opened_as state call (MirrorRead path begin) is =
    inr (
      new_call state call (first_site call).at.pfs (first_site call).at.pfs no_feed,
      refl,
      refl,
      λ s u found after. by_command (first_site call).at.pfs s u (origin_of state.volume (first_site call).at.pfs) call.command (MirrorRead path begin) is tt,
    )
opened_as state call (MirrorWrite path) is =
    let a : ℕ = (first_site call).at.pfs in
    let stream : Feed = next_stream state.streams in
    inr (
      new_call state call a a stream,
      refl,
      refl,
      λ s u found after.
          by_command a s u (origin_of state.volume a) call.command (MirrorWrite path) is (
            origin_found state.volume a s found,
            rw (fed_origin state.volume a (stream_origin stream) s u found after) (outside_new (origin_of state.volume a) stream),
          ),
    )
opened_as state call (MirrorCopy master slave limit) is =
    let a : ℕ = (first_site call).at.pfs in
    let b : ℕ = (second_site call).at.pfs in
    inr (
      new_call state call b a no_feed,
      refl,
      refl,
      λ s u found after.
          by_command a s u (origin_of state.volume b) call.command (MirrorCopy master slave limit) is
          (rw (fed_origin state.volume b (Local a) s u found after) (source_new (origin_of state.volume b) a)),
    )
opened_as state call other is = by (is_tree_call other)
  where
    by : (test : Bool) → OpenedAs state call (if test then on_volume state (change call) else state)
    by true = inl refl
    by false = inl refl

-- a PFS that was there is there still
pub aged_some : (last : ℕ) (s : PseudoFileSystem) (found : Option PseudoFileSystem) → AgesIn last (Some s) found → (u : PseudoFileSystem) × (found ≡ Some u)
    × Ages last s u
aged_some last s None ages = absurd ages
aged_some last s (Some u) ages = (u, refl, ages)

-- versions that begin at a later id go on rising
pub rise_grown : (least bound id : ℕ) (old more : List (ℕ × FileTree)) → RiseFrom least old → BeginBy bound old → bound ≤ id → least ≤ id →
    AllByRecursion (λ (v : ℕ × FileTree). v.0 ≡ id) more → RiseFrom least (old ++ more)
rise_grown least bound id [] [] rise begin by from all = tt
rise_grown least bound id [] (v ∷ vs) rise begin by from all = (omega (arith, all.0), rise_grown v.0 bound id [] vs tt tt by (omega (arith, all.0)) all.1)
rise_grown least bound id (v ∷ vs) more rise begin by from all = (rise.0, rise_grown v.0 bound id vs more rise.1 begin.1 by (omega (arith, begin.0)) all)

each_fed : (slave m last : ℕ) (s u t v : PseudoFileSystem) (os : List OpenCall) → Ages last s u → Ages last t v → s.sync_end ≤ last →
    AllByRecursion (FedBy slave m s t) os → AllByRecursion (FedBy slave m u v) os
each_fed slave m last s u t v [] ages also drawn fed = tt
each_fed slave m last s u t v (o ∷ os) ages also drawn fed =
    (λ is. fed_later o.master last m s u t v o.origin o.command ages also drawn (fed.0 is), each_fed slave m last s u t v os ages also drawn fed.1)

-- over an accepted call
pub Twin-accepted : (state : State) (call : Call) (slave m : ℕ) → call.volume ≡ state.volume → (is_pass call.command ≡ true → NoPass state.opened) →
    Twin state.volume.last state.volume state.opened slave m → Twin (state.volume.last + 1) (accepted_effect state call).volume
    (accepted_effect state call).opened slave m
Twin-accepted state call slave m same alone twin =
    let last : ℕ = state.volume.last in
    let after : State = accepted_effect state call in
    let own_in : AgesIn last (Some twin.own) (system_of after.volume slave) = rw twin.found at (ages_accepted state call slave same) in
    let other_in : AgesIn last (Some twin.other) (system_of after.volume m) = rw twin.found_other at (ages_accepted state call m same) in
    let u = aged_some last twin.own (system_of after.volume slave) own_in in
    let v = aged_some last twin.other (system_of after.volume m) other_in in
    let grows : Grows (own_id call) (versions_of state.volume m) (versions_of after.volume m) = accepted_grows state call m same in
    let id : own_id call ≡ last + 1 = ap (λ (x : Volume). x.last + 1) same in
    let old : versions_of state.volume m ≡ twin.other.versions = ap versions_in twin.found_other in
    let new : versions_of after.volume m ≡ v.0.versions = ap versions_in v.1 in
    let grown : v.0.versions ≡ twin.other.versions ++ grows.more = sym new ∙ (grows.grown ∙ ap (λ (vs : List (ℕ × FileTree)). vs ++ grows.more) old) in
    let begin : AllByRecursion (λ (w : ℕ × FileTree). w.0 ≡ last + 1) grows.more = rw id at grows.begin in
    let still : AllByRecursion (FedBy slave m u.0 v.0) state.opened =
    each_fed slave m last twin.own u.0 twin.other v.0 state.opened u.2 v.2 twin.drawn twin.fed in
    let as_before : u.0.role ≡ Slave → Follows m u.0 v.0 twin.own.origin =
    λ role. follows_later last m twin.own u.0 twin.other v.0 u.2 v.2 twin.drawn twin.own.origin (twin.follows (sym u.2.role ∙ role)) in
    let calls : AllByRecursion (FedBy slave m u.0 v.0) after.opened × OnePass after.opened = elim (opened_as state call call.command refl) [
      | inl is ↦ rw is (still, twin.one)
      | inr new_one ↦ rw new_one.1 (
        (
          λ is_slave. fed_new new_one.0.master m twin.own u.0 v.0 new_one.0.origin new_one.0.command
              (new_one.3 twin.own u.0 (rw is_slave twin.found) (rw is_slave u.1)) as_before,
          still,
        ),
        (λ is. alone (rw (← new_one.2) is), twin.one),
      )
    ] in
    record {
      own = u.0;
      other = v.0;
      found = u.1;
      found_other = v.1;
      drawn = omega (arith, u.2.sync, twin.drawn);
      follows = λ role. follows_source last m twin.own u.0 v.0 twin.own.origin u.2 (as_before role);
      fed = calls.0;
      one = calls.1;
      rising = rw grown (rise_grown 0 last (last + 1) twin.other.versions grows.more twin.rising twin.begun (omega arith) (omega arith) begin);
      begun =
          rw grown (begin_grown (last + 1) (last + 1) twin.other.versions grows.more (omega arith)
          (by_later last (last + 1) twin.other.versions twin.begun (omega arith)) begin);
    }
