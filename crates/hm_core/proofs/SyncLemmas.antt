-- A sync tells what is committed, and leaves the space.
use Rattle.std.proofs.Common.{ℕ, ◌<◌, None, refl, sym, ap, subst, arith}
use Rattle.hm_types.specs.declared.id.Id.{Id}
use Rattle.hm_types.specs.declared.limits.TheConstants.{GREATEST_ID}
use Rattle.hm_model.specs.declared.command.Command.{Command}
use Rattle.hm_model.specs.declared.reply.Reply.TheVariants.{Synced}
use Rattle.hm_stored.specs.Heap.{Heap, free_of, room_of}
use Rattle.hm_stored.specs.Turn.{IsClosed}
use Rattle.hm_state.specs.Live.{NoByte}
use Rattle.hm_state.proofs.LiveLemmas.{live_same}
use Rattle.hm_core.specs.Answer.{AnswersOver}
use Rattle.hm_core.specs.Counts.{with_disk}
use Rattle.hm_core.specs.Open.{opens_job}
use Rattle.hm_core.specs.Served.{IsSync}
use Rattle.hm_core.proofs.TurnLemmas.{paid_later}
use Rattle.hm_core.proofs.CausedLemmas.{sync_goes_on}
use Rattle.hm_core.proofs.CountLemmas.{later_same}
use Rattle.hm_core.proofs.KeptLemmas.{kept_same}
use Rattle.hm_core.proofs.RepliedLemmas.{sync_alone, sync_no_job, sync_no_space}
use Rattle.hm_core.proofs.SpaceLemmas.{sync_told}

pub sync_answers : (numbers : ℕ) (boundary : Id) (faults last : ℕ) (command : Command) (h : Heap) (root : ℕ) → IsSync command → IsClosed h → last < GREATEST_ID
    → AnswersOver numbers boundary.0 faults faults last command h h root root (Synced boundary) None
sync_answers numbers boundary faults last command h root sync closed left = record {
  form = λ opens. absurd (sync_no_job command sync opens);
  closed = closed;
  counted = omega arith;
  told = (sync, refl);
  replied = record {
    media = tt;
    due = λ answers. absurd (sync_alone command sync answers);
    space = λ is. absurd (sync_no_space command sync is);
    reblock = λ fill is. absurd (sync_no_job command sync (ap opens_job is));
  };
  flush = kept_same h h (record {
    bigblocks = refl;
    disk = refl;
    pages = record { committed = refl; frozen = refl; frozen_group = refl; boundary = refl };
    committed = refl;
    frozen = refl;
  });
  live = λ volume holds. live_same NoByte h root h.disk refl;
  paid = λ first calls paid. paid_later first (free_of h) calls (room_of h) paid;
  caused = λ first start counts history running entry is told before so_far.
      sync_goes_on first start (with_disk counts faults) (with_disk counts faults) last running history so_far (later_same (with_disk counts faults)) entry
      left is.own
      (subst IsSync (sym is.call_is) sync) boundary is.reply_is before told;
  legal = λ first start counts history running opening foreigners events entry least is told before used so_far.
      sync_told first start (with_disk counts faults) (with_disk counts faults) history h root last running opening foreigners events so_far
      (later_same (with_disk counts faults)) left entry boundary (subst IsSync (sym is.call_is) sync) is.own is.reply_is before told;
  leads = λ first start counts history running opening foreigners events least used so_far volume holds. tt;
}
