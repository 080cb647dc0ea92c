-- Once all is committed, the disk stands for the volume; and the last stage of a flush leaves nothing unsettled.
use Rattle.std.proofs.Common.{◌≡◌, ℕ, ◌+◌, List, [], Option, None, Some, Result, Ok, Err, refl, ap, subst, ◌∙◌, arith, true, sym}
use Rattle.std.specs.Prelude.{IfOk, IfSome}
use Rattle.hm_types.specs.Told.{BothTell}
use Rattle.hm_types.specs.declared.fault.Fault.{Fault}
use Rattle.hm_disk.specs.Crash.{Told}
use Rattle.hm_disk.specs.Moments.{LeftSince}
use Rattle.hm_header.specs.declared.header.Header.{Header}
use Rattle.hm_header.specs.OnDisk.{HasHeader}
use Rattle.hm_flush.specs.declared.change.Change.TheVariants.{Close, Write, Open}
use Rattle.hm_flush.specs.declared.flush.Flush.{Flush}
use Rattle.hm_flush.specs.declared.flush.Position.{Position}
use Rattle.hm_flush.specs.declared.flush.Position.TheVariants.{Idle, Undoing, Arming, Placing, Committing}
use Rattle.hm_flush.specs.declared.stage.Stage.{Stage}
use Rattle.hm_flush.specs.Calls.{FlushStands, HeaderStands, IsMoved, LeftFalls}
use Rattle.hm_flush.specs.Ends.{StageEnds, StageTells, as_read}
use Rattle.hm_flush.specs.Flush.{IsFlush, left, left_at}
use Rattle.hm_flush.specs.Group.{Group, group_of}
use Rattle.hm_flush.specs.Stages.{due_stage_at, is_synced}
use Rattle.hm_model.specs.After.{Event}
use Rattle.hm_model.specs.Foreign.{Foreigners}
use Rattle.hm_model.specs.Volume.{Volume}
use Rattle.hm_image.specs.Stands.{StandsFor}
use Rattle.hm_pages.specs.Store.{Store}
use Rattle.hm_state.proofs.RecoveredVolumeLemmas.{idle_stands}
use Rattle.hm_core.specs.Core.{HoldsUpTo, StandsOver}
use Rattle.hm_core.specs.Finished.{IsCommittedOn}
use Rattle.hm_core.specs.History.{up_to, volume_of}
use Rattle.hm_core.specs.Inside.{IsInOrder}
use Rattle.hm_core.specs.Staged.{IsFlushed}
use Rattle.hm_core.specs.State.{CoreState}
use Rattle.hm_core.proofs.StepLemmas.{each_drawn, flushed_now}
use Rattle.hm_core.proofs.UpToLemmas.{up_to_all}

module _ (core : CoreState) (flushed : IsFlushed core) (same : core.boundary ≡ core.flush.header.last.0) (sound : IsFlush core.flush)
    (ordered : ∥ IsInOrder core.flush core.last core.mounted.free core.heap core.history ∥₁) where
  -- what is committed is all
  all_up_to : (opening : Volume) (foreigners : Foreigners) (events : List Event) → StandsOver core opening foreigners events
      → volume_of opening foreigners (up_to core.flush.header.last.0 events) ≡ volume_of opening foreigners events
  all_up_to opening foreigners events stands =
      ap (λ (id : ℕ). volume_of opening foreigners (up_to id events)) (sym same ∙ flushed.last)
      ∙ ap (λ (es : List Event). volume_of opening foreigners es)
      (up_to_all core.last core.history events stands.legal.entries
      (each_drawn core.flush core.last core.mounted.free core.heap core.history ordered))

  counts_now : (t : Told) → FlushStands core.flush t → HasHeader t.bytes core.flush.header core.flush.slot
  counts_now t stands = subst (λ (p : Position). HeaderStands p core.flush t) flushed.idle stands.header

  pub committed_on : IfSome core.heap.disk (IsCommittedOn core)
  committed_on = by core.heap.disk refl (flushed_now core.flush core.last core.mounted.free core.heap core.history ordered).stands where
    by : (o : Option Told) → core.heap.disk ≡ o → IfSome o (FlushStands core.flush) → IfSome o (IsCommittedOn core)
    by None is here = tt
    by (Some t) is here = record {
      counts = counts_now t here;
      volume = λ opening foreigners events over.
          let held : HoldsUpTo core opening foreigners events (as_read t) =
          subst (λ (o : Option Told). IfSome o (λ u. HoldsUpTo core opening foreigners events (as_read u))) is over.read in
          subst (λ (v : Volume). StandsFor t.bytes v) (all_up_to opening foreigners events over)
          (idle_stands core.flush sound core.heap (as_read t) (volume_of opening foreigners (up_to core.flush.header.last.0 events))
          (volume_of opening foreigners (up_to core.flush.target.last.0 events)) held flushed.idle);
    }

-- one stage is left before the last one alone, and that ends with a sync
last_synced : (p : Position) (f : Flush) (g : Group) → left_at p f ≡ 1 → is_synced (due_stage_at p f g) ≡ true
last_synced Idle f g one = absurd (omega (arith, one))
last_synced (Undoing from) f g one = absurd (omega (arith, one))
last_synced (Arming Close) f g one = absurd (omega (arith, one))
last_synced (Arming Write) f g one = absurd (omega (arith, one))
last_synced (Arming (Open tried)) f g one = absurd (omega (arith, one))
last_synced (Placing i) f g one = absurd (omega (arith, one))
last_synced (Committing Close) f g one = absurd (omega (arith, one))
last_synced (Committing Write) f g one = absurd (omega (arith, one))
last_synced (Committing (Open tried)) f g one = refl

-- one was left, where none is left after it
one : (f f' : Flush) (p : Position) → f.at ≡ p → left f' + 1 ≡ left f → f'.at ≡ Idle → left_at p f ≡ 1
one f f' p here falls idle =
    let none : left f' ≡ 0 = ap (λ (q : Position). left_at q f') idle in
    ap (λ (q : Position). left_at q f) (sym here) ∙ (sym falls ∙ ap (λ (n : ℕ). n + 1) none)

-- a stage after which no flush is in flight was the last one
ends_synced : (p : Position) (now : Header) (stage : Stage) (f f' : Flush) (s s' : Store) → f.at ≡ p → IsMoved p now stage s' f f' → LeftFalls p s' f f'
    → f'.at ≡ Idle → is_synced (due_stage_at p f (group_of s)) ≡ true
ends_synced Idle now stage f f' s s' here moved falls idle = absurd (begun (ap (λ (x : Flush). x.at) (sym moved) ∙ idle)) where
  begun : Undoing 0 ≡ Idle → ⊥
  begun same = absurd cc
ends_synced (Undoing from) now stage f f' s s' here moved falls idle = last_synced (Undoing from) f (group_of s) (one f f' (Undoing from) here falls idle)
ends_synced (Arming change) now stage f f' s s' here moved falls idle = last_synced (Arming change) f (group_of s) (one f f' (Arming change) here falls idle)
ends_synced (Placing i) now stage f f' s s' here moved falls idle = last_synced (Placing i) f (group_of s) (one f f' (Placing i) here falls idle)
ends_synced (Committing change) now stage f f' s s' here moved falls idle =
    last_synced (Committing change) f (group_of s) (one f f' (Committing change) here falls idle)

-- and leaves nothing unsettled
pub stage_settles : (now : Header) (f f' : Flush) (s s' : Store) (past since : LeftSince) (old new : Option Told) (result : Result Stage Fault)
    → StageEnds now f f' s s' result → BothTell old new (StageTells f f' s s' result past since)
    → IfOk result (λ _. f'.at ≡ Idle → IfSome new (λ t. t.unsettled ≡ []))
stage_settles now f f' s s' past since old new (Err fault) ends tells = tt
stage_settles now f f' s s' past since None None (Ok stage) ends tells = λ idle. tt
stage_settles now f f' s s' past since None (Some t) (Ok stage) ends tells = absurd tells
stage_settles now f f' s s' past since (Some u) None (Ok stage) ends tells = absurd tells
stage_settles now f f' s s' past since (Some u) (Some t) (Ok stage) ends tells =
    λ idle. tells.does.settled (ends_synced f.at now stage f f' s s' refl ends.flush ends.left idle)
