-- What a unit of an open call came to, or the stage that was made in its place.
use Rattle.std.proofs.Common.{◌≡◌, ℕ, List, inl, inr, refl, sym, subst}
use Rattle.std.specs.Prelude.{Err, IfErr, IfOk, None, Ok, Result, Some}
use Rattle.hm_types.specs.Faults.{IsSpaceCaused, IsSpaceUndamaged, IsUndamaged}
use Rattle.hm_types.specs.Space.{IfNoSpace}
use Rattle.hm_types.specs.declared.fault.SpaceFault.{SpaceFault}
use Rattle.hm_types.specs.declared.fault.SpaceFault.TheVariants.{Fault as of_store, NoSpace}
use Rattle.hm_types.specs.declared.fault.Fault.{Fault}
use Rattle.hm_types.specs.declared.fault.Fault.TheVariants.{Damaged, Media, NoMemory}
use Rattle.hm_flush.specs.declared.flush.Position.{Position}
use Rattle.hm_flush.specs.declared.stage.Stage.{Stage}
use Rattle.hm_flush.specs.Calls.{HasStageCause}
use Rattle.hm_key.specs.declared.job.Progress.{Progress}
use Rattle.hm_key.specs.declared.job.Progress.TheVariants.{Done, More}
use Rattle.hm_model.specs.Volume.{Volume}
use Rattle.hm_model.specs.declared.reply.Reply.{Reply}
use Rattle.hm_model.specs.declared.reply.Reply.TheVariants.{Finished, NoSpace as no_space}
use Rattle.hm_relocate.specs.Unit.{Way}
use Rattle.hm_stored.specs.Heap.{Heap}
use Rattle.hm_state.specs.Volume.{HoldsVolume}
use Rattle.hm_core.specs.Core.{Waits}
use Rattle.hm_core.specs.Jobs.{DoesUnit, DoesWork, EndsWork, IsFull, LacksBy, OnJob, StopsWork}
use Rattle.hm_core.specs.Staged.{FailsStage, MakesStage}
use Rattle.hm_core.specs.State.{CoreState, OpenJob, job_with, reblocking}
use Rattle.hm_core.specs.Told.{reply_to, reply_to_stop}
use Rattle.hm_core.specs.Unit.{IfMoreWorksOn, LacksFor, LacksForChoice}
use Rattle.hm_core.proofs.StepLemmas.{stage_failure}

-- a fault is told as no end
pub fault_ends_none : (fault : Fault) (reply : Reply) → reply ≡ reply_to fault → reply ≡ Finished → ⊥
fault_ends_none (Media before after) reply is done = cc
fault_ends_none (Damaged at kind) reply is done = cc
fault_ends_none NoMemory reply is done = cc

pub stop_ends_none : (fault : SpaceFault) (reply : Reply) → reply ≡ reply_to_stop fault → reply ≡ Finished → ⊥
stop_ends_none (of_store fault) reply is done = fault_ends_none fault reply is done
stop_ends_none (NoSpace free needed) reply is done = cc

-- so it is as no lack of space
fault_lacks_none : (fault : Fault) (reply : Reply) → reply ≡ reply_to fault → (free needed : ℕ) → reply ≡ no_space free needed → ⊥
fault_lacks_none (Media before after) reply is free needed lacks = cc
fault_lacks_none (Damaged at kind) reply is free needed lacks = cc
fault_lacks_none NoMemory reply is free needed lacks = cc

pub fault_lacks : (choice : List ℕ) (old : CoreState) (fault : Fault) (reply : Reply) → reply ≡ reply_to fault → LacksBy choice old reply
fault_lacks choice old fault reply is = λ free needed lacks. absurd (fault_lacks_none fault reply is free needed lacks)

-- where a unit stopped for want of space, its reply tells so, with the same numbers
pub stop_lacks : (choice : List ℕ) (old : CoreState) (fault : SpaceFault) (reply : Reply) → reply ≡ reply_to_stop fault
    → IfNoSpace (LacksForChoice choice old.last old.heap old.root) fault → LacksBy choice old reply
stop_lacks choice old (of_store fault) reply is lacks = fault_lacks choice old fault reply is
stop_lacks choice old (NoSpace free needed) reply is lacks = λ told_free told_needed told.
    let first : free ≡ told_free = cc in
    let second : needed ≡ told_needed = cc in
    subst (λ (x : ℕ × ℕ). LacksForChoice choice old.last old.heap old.root x.0 x.1) (λ i. (first i, second i)) lacks

-- where a reblock lacks room for its choice, it lacks room
pub lacks_room : {T : Type 0} (choice : List ℕ) (last : ℕ) (h : Heap) (root : ℕ) (result : Result T SpaceFault)
    → IfErr result (IfNoSpace (LacksForChoice choice last h root)) → IfErr result (IfNoSpace (LacksFor reblocking h))
lacks_room choice last h root (Ok x) lacks = tt
lacks_room choice last h root (Err (of_store fault)) lacks = tt
lacks_room choice last h root (Err (NoSpace free needed)) lacks = (tt, lacks.room)

-- a stage tells no damage
stage_undamaged : (at : Position) (old new : ℕ) (fault : Fault) → HasStageCause {T = Stage} at old new (Err fault) → IsUndamaged fault
stage_undamaged at old new (Media before after) cause = tt
stage_undamaged at old new (Damaged here kind) cause = absurd cause.faults
stage_undamaged at old new NoMemory cause = tt

module _ (opening : ℕ) (old : CoreState) (p : OpenJob) (found : job_with opening old.running ≡ Some p) where
  -- what is so of the one that was found is so of each that is
  on_found : (P : OpenJob → Type 0) → P p → OnJob opening old P
  on_found P is q there = (let one : p ≡ q = cc in subst P one is)

  -- the call got on, from where it had come to where it comes, and with the choice that it had and the one that it has
  pub got_on : (h' : Heap) (root' : ℕ) (result : Result Progress SpaceFault) (from to from' to' : Way) (was now was' now' : List ℕ) → from ≡ from' → to ≡ to'
      → was ≡ was' → now ≡ now' → IfOk result (IfMoreWorksOn p.work from' to' was' now' old.last old.heap h' old.root root')
      → IfOk result (λ progress. OnJob opening old (λ x. IfMoreWorksOn x.work from to was now old.last old.heap h' old.root root' progress))
  got_on h' root' (Err fault) from to from' to' was now was' now' came comes had has more = tt
  got_on h' root' (Ok progress) from to from' to' was now was' now' came comes had has more =
      subst (λ (y : Way × Way × List ℕ × List ℕ). OnJob opening old (λ x.
      IfMoreWorksOn x.work y.0 y.1 y.2 y.3 old.last old.heap h' old.root root' progress))
      (λ i. (sym came i, sym comes i, sym had i, sym has i))
      (on_found (λ x. IfMoreWorksOn x.work from' to' was' now' old.last old.heap h' old.root root' progress) more)

module _ (opening : ℕ) (old new : CoreState) where
  -- by what a unit over the store of a core says
  pub unit_does : (p : OpenJob) → job_with opening old.running ≡ Some p → Waits old new → new.flush ≡ old.flush → (result : Result Progress SpaceFault)
      → IfErr result (IsSpaceCaused old.counts.disk new.counts.disk)
      → ((volume : Volume) → HoldsVolume old.heap old.root old.last volume → IfErr result IsSpaceUndamaged)
      → IfErr result (IfNoSpace (LacksFor p.work old.heap))
      → IfOk result (λ progress. progress ≡ Done → EndsWork p.work old new) → DoesUnit opening old new result
  unit_does p found waits flush result cause undamaged space done = record {
    waits = waits;
    flush = flush;
    done = λ is. on_found opening old p found (λ x. EndsWork x.work old new)
        (subst (λ (x : Result Progress SpaceFault). IfOk x (λ progress. progress ≡ Done → EndsWork p.work old new)) is done refl);
    fails = by result cause undamaged space;
  } where
    by : (x : Result Progress SpaceFault) → IfErr x (IsSpaceCaused old.counts.disk new.counts.disk)
        → ((volume : Volume) → HoldsVolume old.heap old.root old.last volume → IfErr x IsSpaceUndamaged)
        → IfErr x (IfNoSpace (LacksFor p.work old.heap)) → IfErr x (λ fault. OnJob opening old (λ q. StopsWork q.work old new fault))
    by (Ok progress) cause undamaged space = tt
    by (Err (of_store fault)) cause undamaged space = λ q there. record { caused = cause; undamaged = undamaged }
    by (Err (NoSpace free needed)) cause undamaged space = on_found opening old p found (λ x. LacksFor x.work old.heap free needed) space

  pub stage_works : IsFull old → MakesStage old new → DoesWork opening old new None
  stage_works full makes = record { waits = makes.waits; more = inl (full, makes); ends = tt }

  pub stage_ends : (fault : Fault) (reply : Reply) → FailsStage old new
      → HasStageCause {T = Stage} old.flush.at old.counts.disk new.counts.disk (Err fault) → reply ≡ reply_to fault → DoesWork opening old new (Some reply)
  stage_ends fault reply fails cause told = record {
    waits = fails.waits;
    more = tt;
    ends = record {
      tells = λ p found. inr (
        of_store fault,
        told,
        record {
          caused = (stage_failure old.flush.at old.counts.disk new.counts.disk (Err fault) fault reply refl cause told).caused;
          undamaged = λ volume holds. stage_undamaged old.flush.at old.counts.disk new.counts.disk fault cause;
        },
      );
      finished = λ done. absurd (fault_ends_none fault reply told done);
    };
  }

  pub unit_works : ¬ IsFull old → DoesUnit opening old new (Ok More) → DoesWork opening old new None
  unit_works small does = record { waits = does.waits; more = inr (small, does.waits, does.flush); ends = tt }

  pub unit_done : DoesUnit opening old new (Ok Done) → DoesWork opening old new (Some Finished)
  unit_done does = record {
    waits = does.waits;
    more = tt;
    ends = record { tells = λ p found. inl refl; finished = λ done. does.done refl };
  }

  pub unit_fails : (fault : SpaceFault) (reply : Reply) → DoesUnit opening old new (Err fault) → reply ≡ reply_to_stop fault
      → DoesWork opening old new (Some reply)
  unit_fails fault reply does told = record {
    waits = does.waits;
    more = tt;
    ends = record {
      tells = λ p found. inr (fault, told, does.fails p found);
      finished = λ done. absurd (stop_ends_none fault reply told done);
    };
  }
