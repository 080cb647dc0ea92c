-- A stage of a flush keeps what a core stands for, and what always holds of it.
use Rattle.std.proofs.Common.{◌≡◌, ◌≢◌, inl, inr, ℕ, ◌+◌, ◌*◌, ◌/◌, ◌≤◌, List, [], Option, None, Some, Result}
use Rattle.std.proofs.Common.{refl, sym, ap, subst, ◌∙◌, arith, append-nil, length}
use Rattle.std.specs.Prelude.{IfSome, IsSomeAnd}
use Rattle.std.proofs.Math.Logic.{∥∥₁_elim}
use Rattle.std.proofs.Props.{props}
use Rattle.hm_types.specs.Space.{reserve_of}
use Rattle.hm_types.specs.Told.{BothTell}
use Rattle.hm_types.specs.declared.fault.Fault.{Fault}
use Rattle.hm_types.specs.declared.id.Id.{Id}
use Rattle.hm_disk.specs.Crash.{MayLeave, Told}
use Rattle.hm_disk.specs.Moments.{Each, LeftSince}
use Rattle.hm_header.specs.declared.header.Header.{Header}
use Rattle.hm_flush.specs.declared.flush.Flush.{Flush}
use Rattle.hm_flush.specs.declared.flush.Position.TheVariants.{Idle}
use Rattle.hm_flush.specs.declared.stage.Stage.{Stage}
use Rattle.hm_flush.specs.Ends.{StageTells, as_read}
use Rattle.hm_flush.specs.Flush.{tried, tried_at}
use Rattle.hm_flush.specs.Group.{group_of}
use Rattle.hm_flush.proofs.ReadLemmas.{read-on}
use Rattle.hm_pages.specs.Store.{Store}
use Rattle.hm_model.specs.After.{Event}
use Rattle.hm_model.specs.Caused.{Counts, known_after, known_at}
use Rattle.hm_model.specs.Foreign.{Foreigners}
use Rattle.hm_model.specs.Volume.{Volume}
use Rattle.hm_stored.specs.Flushed.{FlushesSpace, IsFlushedBy}
use Rattle.hm_stored.specs.Heap.{Heap, free_of, room_of}
use Rattle.hm_stored.specs.Standing.{HoldsBy}
use Rattle.hm_state.specs.Live.{IsInPlace, KeepsLiveBut}
use Rattle.hm_state.specs.Flushing.{HoldsFlush, RecoversToVolume, committed_after, frozen_after}
use Rattle.hm_state.specs.Volume.{HoldsVolume}
use Rattle.hm_state.specs.Written.{IsHeaderOf}
use Rattle.hm_state.proofs.CourseLemmas.{Course, commits, course, freezes, stays}
use Rattle.hm_state.proofs.CurrentLemmas.{current_held}
use Rattle.hm_state.proofs.LiveLemmas.{stage_keeps_live}
use Rattle.hm_state.proofs.MovedLemmas.{free_less, room_same}
use Rattle.hm_state.proofs.RecoveredVolumeLemmas.{left_recovers, within_recovers}
use Rattle.hm_state.proofs.StageHeldLemmas.{held_after, stage_touches, touches_as_read}
use Rattle.hm_core.specs.Core.{Follows, GoesOnOverEach, HoldsUpTo, IsGuarded, IsSoundCore, LeavesHeld, StandsOver}
use Rattle.hm_core.specs.Counts.{AreLater}
use Rattle.hm_core.specs.Crash.{IsBetween, IsLeftBoundary, LeavesPrefixes, RecoversToPrefix}
use Rattle.hm_core.specs.History.{setting_of, up_to, volume_of}
use Rattle.hm_core.specs.Inside.{IsInOrder}
use Rattle.hm_core.specs.Ledger.{IsPaid, calls_in}
use Rattle.hm_core.specs.Live.{StageKeepsLive}
use Rattle.hm_core.specs.Staged.{KeepsTree, header_now}
use Rattle.hm_core.specs.State.{CoreState}
use Rattle.hm_core.proofs.CoreLemmas.{goes_on_by_none}
use Rattle.hm_core.proofs.CountLemmas.{later_still, legal_later}
use Rattle.hm_core.proofs.CrashLemmas.{all_moments, leaves_weaker, left_between, volume_is_prefix}
use Rattle.hm_core.proofs.StepLemmas.{boundary_drawn, each_drawn, size_now, target_drawn}
use Rattle.hm_core.proofs.UpToLemmas.{up_to_all}

-- while no flush is in flight, nothing is asked of a frozen volume
pub idle_any : (f : Flush) (h : Heap) (t : Told) (committed frozen other : Volume) → f.at ≡ Idle → HoldsFlush f h t committed frozen
    → HoldsFlush f h t committed other
idle_any f h t committed frozen other idle held = record {
  bigblocks = held.bigblocks;
  guarded = held.guarded;
  committed_is = held.committed_is;
  committed_root = held.committed_root;
  committed_settled = held.committed_settled;
  frozen_is = λ flies. absurd (flies idle);
  frozen_root = held.frozen_root;
  frozen_settled = held.frozen_settled;
  outside = held.outside;
}

-- a disk tells, where a space over it holds a volume
pub disk_told : (h : Heap) (root last : ℕ) (volume : Volume) → HoldsVolume h root last volume → h.disk ≡ None → ⊥
disk_told h root last volume holds none =
    subst (λ (o : Option Told). IsSomeAnd o (λ t. HoldsBy h root t.bytes holds.elements.0)) none holds.elements.1

-- what always holds of a core holds after a stage
module _ (core : CoreState) (f' : Flush) (h' : Heap) (result : Result Stage Fault)
    (flushes : FlushesSpace (header_now core) core.flush f' core.heap h' result) where
  abbrev now : Header
  now = header_now core

  -- the ids that the flush holds
  record Ids (flight : Type 0) : Type 0 where
    pub boundary : core.flush.header.last.0 ≤ f'.header.last.0
    pub later : f'.header.last.0 ≤ core.last
    pub target : flight → (f'.header.last.0 ≤ f'.target.last.0) × (f'.target.last.0 ≤ core.last)

  ids_after : IsInOrder core.flush core.last core.mounted.free core.heap core.history → Ids (f'.at ≢ Idle)
  ids_after o = by (course now core.flush f' core.heap h' result flushes) where
    later : core.flush.header.last.0 ≤ core.last
    later = o.later

    by : Course now core.flush f' core.heap h' result → Ids (f'.at ≢ Idle)
    by (stays s) =
        let same = ap (λ (id : Id). id.0) s.header.last in
        let goal_same = ap (λ (x : Header). x.last.0) s.target in
        record {
          boundary = omega (arith, same);
          later = omega (arith, same, later);
          target = λ flies. let old = o.target (s.flight flies) in
              let first = old.0 in let second = old.1 in (omega (arith, same, goal_same, first), omega (arith, goal_same, second));
        }
    by (freezes s) =
        let same = ap (λ (x : Header). x.last.0) s.header in
        let goal_is = ap (λ (x : Header). x.last.0) s.target in
        record {
          boundary = omega (arith, same);
          later = omega (arith, same, later);
          target = λ flies. (omega (arith, same, goal_is, later), omega (arith, goal_is));
        }
    by (commits s) =
        let same = ap (λ (x : Header). x.last.0) s.header in
        let old = o.target s.flight in
        let first = old.0 in let second = old.1 in
        record {
          boundary = omega (arith, same, first);
          later = omega (arith, same, second);
          target = λ flies. absurd (flies s.idle);
        }

  -- the ledger is in order still
  paid_still : (first calls : ℕ) → IsPaid first (free_of core.heap) calls (room_of core.heap) → IsPaid first (free_of h') calls (room_of h')
  paid_still first calls paid = record {
    begun = paid.begun;
    filled = λ zone.
        subst (λ (n : ℕ). paid.begun zone * calls_in zone ≤ calls + n / reserve_of zone)
        (sym (room_same now core.flush f' core.heap h' result flushes zone)) (paid.filled zone);
    paid = (let more = free_less now core.flush f' core.heap h' result flushes in let was = paid.paid in omega (arith, more, was));
  }

  pub ordered_staged : IsFlushedBy f' h' → IsInOrder core.flush core.last core.mounted.free core.heap core.history
      → IsInOrder f' core.last core.mounted.free h' core.history
  ordered_staged ready o =
      let ids = ids_after o in
      record {
        ready = ready;
        told = λ e has. (let below = o.told e has in let rises = ids.boundary in omega (arith, below, rises));
        drawn = o.drawn;
        later = ids.later;
        target = ids.target;
        greatest = o.greatest;
        paid = λ none. paid_still core.mounted.free (length core.history) (o.paid none);
      }

-- What a disk says of what a crash may leave: before a step nothing else since the moment of its start, and after it no more since a
-- later moment than since an earlier one.
pub record IsLeftBy (past since : LeftSince) (old new : Option Told) : Type 0 where
  pub only : (image : List ℕ) → IfSome old (λ s. past s.moment image → MayLeave s.bytes s.unsettled image)
  pub earlier : (first moment : ℕ) (image : List ℕ) → IfSome new (λ t. first ≤ moment → since moment image → since first image)

module _ (core : CoreState) (f' : Flush) (h' : Heap) (counts : Counts) (result : Result Stage Fault) (past since : LeftSince)
    (flushes : FlushesSpace (header_now core) core.flush f' core.heap h' result)
    (tells : BothTell core.heap.disk h'.disk (StageTells core.flush f' core.heap.pages h'.pages result past since))
    (left : IsLeftBy past since core.heap.disk h'.disk) (counted : AreLater core.counts counts)
    (ordered : ∥ IsInOrder core.flush core.last core.mounted.free core.heap core.history ∥₁) where
  -- the core after the stage
  abbrev pub new : CoreState
  new = record core { boundary = f'.header.last.0; counts = counts; flush = f'; heap = h' }

  is_header : IsHeaderOf core.heap core.root core.last (header_now core)
  is_header = record {
    bigblocks = size_now core.flush core.last core.mounted.free core.heap core.history ordered;
    append = refl;
    root_is = refl;
    last_is = refl;
  }

  module _ (opening : Volume) (foreigners : Foreigners) (events : List Event)
      (stands : StandsOver core opening foreigners events) where
    abbrev up_to_id : ℕ → Volume
    up_to_id id = volume_of opening foreigners (up_to id events)

    abbrev volume : Volume
    volume = volume_of opening foreigners events

    abbrev committed : Volume
    committed = up_to_id core.flush.header.last.0

    abbrev frozen : Volume
    frozen = up_to_id core.flush.target.last.0

    abbrev holds : HoldsVolume core.heap core.root core.last volume
    holds = stands.legal.held.holds

    -- the volumes that the flush holds after the stage are those up to its ids
    held_up_to : (t : Told)
        → HoldsFlush f' h' t (committed_after core.flush.at result committed frozen) (frozen_after core.flush.at result volume frozen)
        → HoldsUpTo new opening foreigners events t
    held_up_to t held = by (course (header_now core) core.flush f' core.heap h' result flushes) where
      step : committed_after core.flush.at result committed frozen ≡ up_to_id f'.header.last.0
          → frozen_after core.flush.at result volume frozen ≡ up_to_id f'.target.last.0 → HoldsUpTo new opening foreigners events t
      step first second =
          subst (λ (c : Volume). HoldsFlush f' h' t c (up_to_id f'.target.last.0)) first
          (subst (λ (z : Volume). HoldsFlush f' h' t (committed_after core.flush.at result committed frozen) z) second held)

      -- all that was answered is up to the last id
      all : volume ≡ up_to_id core.last
      all =
          ap (λ (es : List Event). volume_of opening foreigners es)
          (sym (up_to_all core.last core.history events stands.legal.entries
          (each_drawn core.flush core.last core.mounted.free core.heap core.history ordered)))

      by : Course (header_now core) core.flush f' core.heap h' result → HoldsUpTo new opening foreigners events t
      by (stays s) =
          step (s.committed_is committed frozen ∙ ap (λ (id : Id). up_to_id id.0) (sym s.header.last))
          (s.frozen_is volume frozen ∙ ap (λ (x : Header). up_to_id x.last.0) (sym s.target))
      by (freezes s) =
          step (s.committed_is committed frozen ∙ ap (λ (x : Header). up_to_id x.last.0) (sym s.header))
          (s.frozen_is volume frozen ∙ (all ∙ ap (λ (x : Header). up_to_id x.last.0) (sym s.target)))
      by (commits s) =
          subst (λ (c : Volume). HoldsFlush f' h' t c (up_to_id f'.target.last.0))
          (s.committed_is committed frozen ∙ ap (λ (x : Header). up_to_id x.last.0) (sym s.header))
          (idle_any f' h' t (committed_after core.flush.at result committed frozen) (frozen_after core.flush.at result volume frozen)
          (up_to_id f'.target.last.0) s.idle held)

    module _ (s t : Told) (was : core.heap.disk ≡ Some s) (is : h'.disk ≡ Some t)
        (did : StageTells core.flush f' core.heap.pages h'.pages result past since s t) where
      read_s : HoldsUpTo core opening foreigners events (as_read s)
      read_s = subst (λ (o : Option Told). IfSome o (λ u. HoldsUpTo core opening foreigners events (as_read u))) was stands.read

      current_t : HoldsVolume h' core.root core.last volume
      current_t =
          current_held (header_now core) core.flush f' core.heap h' result flushes core.root core.last volume is_header holds s t was is
          (stage_touches core.flush (group_of core.heap.pages) result s t did.does) (as_read s) committed frozen read_s

      read_t : HoldsUpTo new opening foreigners events (as_read t)
      read_t =
          held_up_to (as_read t)
          (held_after (header_now core) core.flush f' core.heap h' result flushes core.root core.last volume is_header holds s (as_read s) (as_read t) was refl
          committed frozen read_s
          (touches_as_read core.flush (group_of core.heap.pages) result s t (stage_touches core.flush (group_of core.heap.pages) result s t did.does))
          (read-on (header_now core) core.flush f' core.heap.pages h'.pages result s t flushes.flush flushes.ready flushes.before.sound flushes.ends did.does
          read_s.guarded))

      told_t : HoldsUpTo core opening foreigners events s → HoldsUpTo new opening foreigners events t
      told_t held =
          held_up_to t
          (held_after (header_now core) core.flush f' core.heap h' result flushes core.root core.last volume is_header holds s s t was refl
          committed frozen held (stage_touches core.flush (group_of core.heap.pages) result s t did.does) (did.guards held.guarded))

      -- what recovers to a volume that is held recovers to a prefix, also once the last stage was tried
      tried_is_prefix : HoldsUpTo core opening foreigners events s → (image : List ℕ) → RecoversToVolume (tried core.flush) committed frozen image
          → RecoversToPrefix (IsLeftBoundary (tried core.flush)) opening foreigners events image
      tried_is_prefix held image recovers =
          volume_is_prefix core.flush core.heap s opening foreigners events held (tried core.flush) refl refl (λ opened idle. absurd cc) image recovers

      -- so does what a crash at its start may leave
      recovers_tried : HoldsUpTo core opening foreigners events s → Each (MayLeave s.bytes s.unsettled) (RecoversToVolume (tried core.flush) committed frozen)
      recovers_tried held image may =
          let before = left_recovers core.flush flushes.flush core.heap s committed frozen held image may in
          record {
            result = before.result;
            recovers = before.recovers;
            stands = elim before.stands [ inl stands ↦ inl stands | inr (opened, stands) ↦ inr (ap tried_at opened, stands) ];
          }

      leaves_t : HoldsUpTo core opening foreigners events s
          → LeavesPrefixes past since (IsLeftBoundary (tried core.flush)) opening foreigners events
      leaves_t held moment image since_then =
          let only = λ (i : List ℕ). subst (λ (o : Option Told). IfSome o (λ s. past s.moment i → MayLeave s.bytes s.unsettled i)) was (left.only i) in
          let earlier = λ (first moment : ℕ) (i : List ℕ). subst (λ (o : Option Told). IfSome o (λ t. first ≤ moment → since moment i → since first i)) is
          (left.earlier first moment i) in
          elim (all_moments (RecoversToVolume (tried core.flush) committed frozen) past since s t earlier only (recovers_tried held)
          (within_recovers (header_now core) core.flush f' core.heap h' result s t past since core.root core.last volume committed frozen flushes did
          holds held) moment image since_then) [
            | inl before ↦ inl before
            | inr within ↦ inr (tried_is_prefix held image within)
          ]

    -- Its disk tells, so this is so.
    record After : Type 0 where
      pub current : HoldsVolume h' core.root core.last volume
      pub read : IfSome h'.disk (λ t. HoldsUpTo new opening foreigners events (as_read t))
      pub guarded : IsGuarded core opening foreigners events → IsGuarded new opening foreigners events
      pub leaves : IsGuarded core opening foreigners events
          → LeavesPrefixes past since (IsLeftBoundary (tried core.flush)) opening foreigners events

    after : After
    after = by core.heap.disk h'.disk refl refl tells where
      by : (o n : Option Told) → core.heap.disk ≡ o → h'.disk ≡ n
          → BothTell o n (StageTells core.flush f' core.heap.pages h'.pages result past since) → After
      by None n was is both = absurd (disk_told core.heap core.root core.last volume holds was)
      by (Some s) None was is both = absurd both
      by (Some s) (Some t) was is both = record {
        current = current_t s t was is both;
        read = subst (λ (o : Option Told). IfSome o (λ u. HoldsUpTo new opening foreigners events (as_read u))) (sym is) (read_t s t was is both);
        guarded = λ held.
            subst (λ (o : Option Told). IfSome o (HoldsUpTo new opening foreigners events)) (sym is)
            (told_t s t was is both (subst (λ (o : Option Told). IfSome o (HoldsUpTo core opening foreigners events)) was held));
        leaves = λ held. leaves_t s t was is both (subst (λ (o : Option Told). IfSome o (HoldsUpTo core opening foreigners events)) was held);
      }

    new_stands : StandsOver new opening foreigners events
    new_stands = record {
      legal = record {
        entries = stands.legal.entries;
        legal = legal_later (setting_of core.mounted.free core.mounted.counts core.counts opening foreigners) counts events counted stands.legal.legal;
        counted = later_still (known_after (known_at opening.last core.mounted.counts) events).counts core.counts counts stands.legal.counted counted;
        held = record { holds = after.current; opened = stands.legal.held.opened };
      };
      read = after.read;
    }

  -- and no byte that is live is written but where a page is placed
  pub stage_live : StageKeepsLive core new
  stage_live volume holds = by core.heap.disk h'.disk tells where
    by : (o n : Option Told) → BothTell o n (StageTells core.flush f' core.heap.pages h'.pages result past since)
        → BothTell o n (KeepsLiveBut (IsInPlace core.flush.at core.heap.pages) core.heap core.root)
    by None None both = tt
    by None (Some t) both = absurd both
    by (Some s) None both = absurd both
    by (Some s) (Some t) both =
        stage_keeps_live core.flush core.heap flushes.ready (size_now core.flush core.last core.mounted.free core.heap core.history ordered) core.root
        core.last volume holds result s t both.does

  pub stage_leaves : LeavesHeld past since core
  stage_leaves opening foreigners events stands = (after opening foreigners events stands).leaves

  -- each boundary that a crash within it may leave is drawn
  within : core.boundary ≡ core.flush.header.last.0 → (boundary : ℕ) → IsLeftBoundary (tried core.flush) boundary
      → IsBetween core.boundary core.last boundary
  within is boundary left =
      subst (λ (least : ℕ). IsBetween least core.last boundary) (sym is)
      (left_between core.flush core.last (boundary_drawn core.flush core.last core.mounted.free core.heap core.history ordered)
      (target_drawn core.flush core.last core.mounted.free core.heap core.history ordered) boundary left)

  -- with the root, which is the same
  module _ (is : core.boundary ≡ core.flush.header.last.0) (root : ℕ) (same : root ≡ core.root) where
    pub stage_goes_on : GoesOnOverEach past since core (record new { root = root })
    stage_goes_on = subst (λ (n : ℕ). GoesOnOverEach past since core (record new { root = n })) (sym same)
        (λ opening foreigners events stands.
        let came = after opening foreigners events stands in
        goes_on_by_none past since core new opening foreigners events (new_stands opening foreigners events stands) came.guarded
        (λ was. leaves_weaker (IsLeftBoundary (tried core.flush)) (IsBetween core.boundary core.last) past since opening foreigners events events
        (within is) (λ boundary left. refl) (came.leaves was)))

    pub stage_follows : IsSoundCore (record new { root = root }) → Follows past since core (record new { root = root })
    stage_follows sound = record {
      mounted = refl;
      history = ([], sym (append-nil core.history));
      last = omega arith;
      boundary = ∥∥₁_elim ordered (hlevel props) (λ o. let rises = (ids_after core f' h' result flushes o).boundary in omega (arith, is, rises));
      never_falls = counted;
      sound = sound;
      goes_on = stage_goes_on;
    }

-- a stage leaves the tree where it was, its pages, and where zones append
pub stage_tree : (core : CoreState) (f' : Flush) (h' : Heap) (result : Result Stage Fault)
    → FlushesSpace (header_now core) core.flush f' core.heap h' result → (counts : Counts) (boundary root : ℕ) → root ≡ core.root
    → KeepsTree core (record core { boundary = boundary; counts = counts; flush = f'; heap = h'; root = root })
stage_tree core f' h' result flushes counts boundary root same = record {
  root = same;
  pages = by (course (header_now core) core.flush f' core.heap h' result flushes);
  append = ap (λ (h : Heap). h.append) flushes.rest;
} where
  by : Course (header_now core) core.flush f' core.heap h' result → h'.pages.current ≡ core.heap.pages.current
  by (stays s) = ap (λ (p : Store). p.current) s.pages
  by (freezes s) = s.pages.current
  by (commits s) = s.pages.current
