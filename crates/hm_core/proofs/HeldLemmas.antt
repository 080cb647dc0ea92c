-- What a flush holds is held over a step that leaves the flush as it is, and so each image that a crash within may leave recovers to it.
use Rattle.std.proofs.Common.{◌≡◌, inl, inr, ℕ, List, Option, None, Some, refl, sym, subst}
use Rattle.std.specs.Prelude.{IfSome}
use Rattle.hm_disk.specs.Crash.{MayLeave, Told}
use Rattle.hm_disk.specs.Moments.{Each, LeftSince}
use Rattle.hm_flush.specs.declared.flush.Flush.{Flush}
use Rattle.hm_flush.specs.Ends.{as_read}
use Rattle.hm_flush.specs.Flush.{tried}
use Rattle.hm_model.specs.After.{Event}
use Rattle.hm_model.specs.Foreign.{Foreigners}
use Rattle.hm_model.specs.Volume.{Volume}
use Rattle.hm_state.specs.Flushing.{HoldsFlush}
use Rattle.hm_state.specs.Volume.{HoldsVolume}
use Rattle.hm_core.specs.Answer.{KeepsFlush}
use Rattle.hm_core.specs.Core.{HoldsUpTo, IsGuarded, IsSoundCore, StandsOver}
use Rattle.hm_core.specs.Crash.{IsLeftBoundary, LeavesNow, LeavesPrefixes, RecoversToPrefix}
use Rattle.hm_core.specs.History.{up_to, volume_of}
use Rattle.hm_core.specs.State.{CoreState}
use Rattle.hm_core.proofs.CrashLemmas.{left_tried, prefix_weaker}
use Rattle.hm_core.proofs.KeptLemmas.{if_told}
use Rattle.hm_core.proofs.StageLemmas.{disk_told}

module _ (past since : LeftSince) (core new : CoreState) (ended : IsSoundCore new) (same : new.flush ≡ core.flush)
    (keeps : KeepsFlush ((volume : Volume) × HoldsVolume core.heap core.root core.last volume) core.heap new.heap)
    (leaves : LeavesNow past since new.heap.disk) (opening : Volume) (foreigners : Foreigners) (events : List Event)
    (stands : StandsOver core opening foreigners events) where
  abbrev committed : Volume
  committed = volume_of opening foreigners (up_to core.flush.header.last.0 events)

  abbrev frozen : Volume
  frozen = volume_of opening foreigners (up_to core.flush.target.last.0 events)

  known : (volume : Volume) × HoldsVolume core.heap core.root core.last volume
  known = (_, stands.legal.held.holds)

  -- what the flush held it holds over the space that came of the step
  there : (t : Told) → HoldsFlush core.flush new.heap t committed frozen → HoldsUpTo new opening foreigners events t
  there t on =
      subst (λ (f : Flush). HoldsFlush f new.heap t (volume_of opening foreigners (up_to f.header.last.0 events))
      (volume_of opening foreigners (up_to f.target.last.0 events))) (sym same) on

  pub read_still : IfSome new.heap.disk (λ t. HoldsUpTo new opening foreigners events (as_read t))
  read_still = if_told new.heap.disk (λ t. there (as_read t)) (keeps.read known core.flush committed frozen stands.read)

  pub guarded_still : IsGuarded core opening foreigners events → IsGuarded new opening foreigners events
  guarded_still was = if_told new.heap.disk there (keeps.guarded known core.flush committed frozen was)

  -- so each image recovers to what the flush holds
  pub held_still : (root last : ℕ) (volume : Volume) → HoldsVolume new.heap root last volume → IsGuarded core opening foreigners events
      → LeavesPrefixes past since (IsLeftBoundary (tried core.flush)) opening foreigners events
  held_still root last volume holds was moment image left = elim (leaves moment image left) [
    | inl before ↦ inl before
    | inr now ↦ inr (recovers new.heap.disk refl now (ended.now opening foreigners events (guarded_still was)))
  ] where
    recovers : (o : Option Told) → new.heap.disk ≡ o → IfSome o (λ t. MayLeave t.bytes t.unsettled image)
        → IfSome o (λ t. Each (MayLeave t.bytes t.unsettled) (RecoversToPrefix (IsLeftBoundary new.flush) opening foreigners events))
        → RecoversToPrefix (IsLeftBoundary (tried core.flush)) opening foreigners events image
    recovers None none now each = absurd (disk_told new.heap root last volume holds none)
    recovers (Some t) told now each =
        prefix_weaker (IsLeftBoundary new.flush) (IsLeftBoundary (tried core.flush)) opening foreigners events events
        (λ boundary mine. left_tried core.flush boundary (subst (λ (f : Flush). IsLeftBoundary f boundary) same mine))
        (λ boundary mine. refl) image (each image now)
