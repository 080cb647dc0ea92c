-- A core follows itself over a unit of a job that keeps enough, and what a crash within may leave.
use Rattle.std.proofs.Common.{◌≡◌, ℕ, List, [], append-nil, length, refl, sym, subst, ◌∙◌, arith, Some}
use Rattle.std.specs.Prelude.{IsFalse, Option}
use Rattle.std.specs.List.{list_any}
use Rattle.hm_disk.specs.Moments.{LeftSince}
use Rattle.hm_flush.specs.declared.flush.Flush.{Flush}
use Rattle.hm_flush.specs.Flush.{tried}
use Rattle.hm_model.specs.After.{Event, State}
use Rattle.hm_model.specs.Foreign.{Foreigners}
use Rattle.hm_model.specs.Volume.{Volume}
use Rattle.hm_model.specs.declared.entry.Entry.{Entry}
use Rattle.hm_model.specs.Needs.{moved_space}
use Rattle.hm_step.specs.Pruned.{KeepsWithin}
use Rattle.hm_stored.specs.Heap.{Heap, free_of, room_of}
use Rattle.hm_core.specs.Core.{Follows, GoesOnOverEach, IsGuarded, IsSoundCore, LeavesHeld, StandsOver}
use Rattle.hm_core.specs.Counts.{with_disk}
use Rattle.hm_core.specs.Crash.{IsBetween, IsLeftBoundary, LeavesNow, LeavesPrefixes}
use Rattle.hm_core.specs.History.{IsLegalOver}
use Rattle.hm_core.specs.Inside.{IsInOrder}
use Rattle.hm_core.specs.Ledger.{IsPaid}
use Rattle.hm_core.specs.Open.{AreOpen, ids_kept_by}
use Rattle.hm_core.specs.State.{CoreState, OpenJob, job_with}
use Rattle.hm_core.specs.Unit.{UnitLeaves}
use Rattle.hm_core.proofs.CoreLemmas.{goes_on_by_none}
use Rattle.hm_core.proofs.CountLemmas.{disk_later}
use Rattle.hm_core.proofs.CrashLemmas.{leaves_weaker}
use Rattle.hm_core.proofs.HeldLemmas.{guarded_still, held_still, read_still}
use Rattle.hm_core.proofs.StepLemmas.{group_same}
use Rattle.hm_core.proofs.UnitLemmas.{open_enough, uncounted, unit_legal}

module _ (past since : LeftSince) (core : CoreState) (h' : Heap) (root' faults' : ℕ) (ids : ℕ → Option (List (ℕ × ℕ)))
    (enough : (state : State) → AreOpen core.running state → KeepsWithin ids state.volume) (begun : IsSoundCore core)
    (leaves : UnitLeaves ids core.counts.disk faults' core.last core.heap h' core.root root') (crash : LeavesNow past since h'.disk) where
  abbrev after : CoreState
  after = record core { heap = h'; root = root'; counts = with_disk core.counts faults' }

  module _ (ended : IsSoundCore after) where
    module _ (opening : Volume) (foreigners : Foreigners) (events : List Event) (stands : StandsOver core opening foreigners events) where
      abbrev LegalWith : ℕ → Type 0
      LegalWith faults =
          IsLegalOver core.mounted.free core.mounted.counts (with_disk core.counts faults) core.history h' root' core.last core.running opening foreigners
          events

      legal_with : (faults : ℕ) → UnitLeaves ids core.counts.disk faults core.last core.heap h' core.root root' → LegalWith faults
      legal_with faults leaves = unit_legal ids core.counts.disk faults core.last core.heap h' core.root root' core.running enough leaves core.mounted.free
          core.mounted.counts core.counts core.history opening foreigners events stands.legal

      held : IsGuarded core opening foreigners events → LeavesPrefixes past since (IsLeftBoundary (tried core.flush)) opening foreigners events
      held = held_still past since core after ended refl leaves.flush crash opening foreigners events stands root' core.last _
          (legal_with faults' leaves).held.holds

      guarded : IsGuarded core opening foreigners events → IsGuarded after opening foreigners events
      guarded = guarded_still past since core after ended refl leaves.flush crash opening foreigners events stands

      crashed : IsGuarded core opening foreigners events → LeavesPrefixes past since (IsBetween core.boundary core.last) opening foreigners events
      crashed was =
          leaves_weaker (IsLeftBoundary (tried core.flush)) (IsBetween core.boundary core.last) past since opening foreigners events events
          begun.between (λ boundary mine. refl) (held was)

    -- by any count of faults by which the history is legal
    goes_on_with : (faults : ℕ) → UnitLeaves ids core.counts.disk faults core.last core.heap h' core.root root'
        → GoesOnOverEach past since core (record after { counts = with_disk core.counts faults })
    goes_on_with faults leaves opening foreigners events stands =
        goes_on_by_none past since core (record after { counts = with_disk core.counts faults }) opening foreigners events (record {
          legal = legal_with opening foreigners events stands faults leaves;
          read = read_still past since core after ended refl leaves.flush crash opening foreigners events stands;
        }) (guarded opening foreigners events stands) (crashed opening foreigners events stands)

    pub unit_leaves_held : LeavesHeld past since core
    unit_leaves_held = held

    -- so also as if no fault had been counted meanwhile
    pub unit_uncounted : GoesOnOverEach past since core (record after { counts = core.counts })
    unit_uncounted =
        goes_on_with core.counts.disk
        (uncounted ids core.counts.disk faults' core.last core.heap h' core.root root' leaves)

    pub unit_follows : Follows past since core after
    unit_follows = record {
      mounted = refl;
      history = ([], sym (append-nil core.history));
      last = omega arith;
      boundary = omega arith;
      never_falls = disk_later core.counts core.counts.disk faults' leaves.counted;
      sound = ended;
      goes_on = goes_on_with faults' leaves;
    }

-- it leaves a core in order
pub ordered_unit : (ids : ℕ → Option (List (ℕ × ℕ))) (faults faults' : ℕ) (h h' : Heap) (root root' : ℕ) (f : Flush) (last free : ℕ) (history : List Entry)
    → UnitLeaves ids faults faults' last h h' root root'
    → (IsFalse (list_any moved_space history) → IsPaid free (free_of h) (length history) (room_of h) → IsPaid free (free_of h') (length history) (room_of h'))
    → IsInOrder f last free h history → IsInOrder f last free h' history
ordered_unit ids faults faults' h h' root root' f last free history leaves pays o = record {
  ready = record {
    closed = leaves.closed;
    bigblocks = o.ready.bigblocks ∙ sym leaves.flush.bigblocks;
    group = group_same f h.pages h'.pages leaves.flush.pages o.ready.group;
    stands = leaves.flush.stands f o.ready.stands;
  };
  told = o.told;
  drawn = o.drawn;
  later = o.later;
  target = o.target;
  greatest = o.greatest;
  paid = λ none. pays none (o.paid none);
}

-- a core with other words for the same open calls, and for the same room
pub same_core : (core : CoreState) (running : List OpenJob) (spare : ℕ) → running ≡ core.running → spare ≡ core.spare
    → record core { running = running; spare = spare } ≡ core
same_core core running spare same room = λ i. record core { running = same i; spare = room i }

-- the core after a unit of one of its open calls, with these as they are kept
module _ (past since : LeftSince) (core : CoreState) (h' : Heap) (root' faults' id : ℕ) (p : OpenJob) (found : job_with id core.running ≡ Some p)
    (begun : IsSoundCore core) (leaves : UnitLeaves (ids_kept_by p.work) core.counts.disk faults' core.last core.heap h' core.root root')
    (crash : LeavesNow past since h'.disk) (running' : List OpenJob) (spare' : ℕ) (same : running' ≡ core.running) (room : spare' ≡ core.spare) where
  abbrev plain : CoreState
  plain = record core { heap = h'; root = root'; counts = with_disk core.counts faults' }

  abbrev new : CoreState
  new = record plain { running = running'; spare = spare' }

  enough : (state : State) → AreOpen core.running state → KeepsWithin (ids_kept_by p.work) state.volume
  enough = open_enough id p core.running found

  moved : (P : CoreState → Type 0) → P plain → P new
  moved P = subst P (sym (same_core plain running' spare' same room))

  module _ (ended : IsSoundCore new) where
    back : IsSoundCore plain
    back = subst IsSoundCore (same_core plain running' spare' same room) ended

    pub kept_follows : Follows past since core new
    kept_follows = moved (λ c. Follows past since core c) (unit_follows past since core h' root' faults' (ids_kept_by p.work) enough begun leaves crash back)

    pub kept_uncounted : GoesOnOverEach past since core (record new { counts = core.counts })
    kept_uncounted = moved (λ c. GoesOnOverEach past since core (record c { counts = core.counts }))
        (unit_uncounted past since core h' root' faults' (ids_kept_by p.work) enough begun leaves crash back)

    pub kept_leaves_held : LeavesHeld past since core
    kept_leaves_held = unit_leaves_held past since core h' root' faults' (ids_kept_by p.work) enough begun leaves crash back
