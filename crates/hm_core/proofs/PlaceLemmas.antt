-- The opening of a call of housekeeping for which no place was found is refused, and leaves the space.
use Rattle.std.proofs.Common.{ℕ, ◌<◌, None, inr, refl, subst, sym, arith}
use Rattle.hm_types.specs.declared.fault.Fault.TheVariants.{NoMemory as no_memory}
use Rattle.hm_types.specs.declared.limits.TheConstants.{GREATEST_ID}
use Rattle.hm_model.specs.declared.command.Command.{Command}
use Rattle.hm_model.specs.declared.reply.Reply.TheVariants.{NoMemory}
use Rattle.hm_stored.specs.Heap.{Heap, free_of, room_of}
use Rattle.hm_stored.specs.Turn.{IsClosed}
use Rattle.hm_state.specs.Live.{NoByte}
use Rattle.hm_state.proofs.LiveLemmas.{live_same}
use Rattle.hm_core.specs.Answer.{AnswersOver}
use Rattle.hm_core.specs.Counts.{with_disk}
use Rattle.hm_core.specs.Served.{IsServed}
use Rattle.hm_core.proofs.CausedLemmas.{refused_goes_on}
use Rattle.hm_core.proofs.CountLemmas.{later_same}
use Rattle.hm_core.proofs.KeptLemmas.{kept_same}
use Rattle.hm_core.proofs.RefusedLemmas.{refused_call}
use Rattle.hm_core.proofs.TurnLemmas.{paid_later}

pub no_place : (numbers boundary faults last : ℕ) (command : Command) (h : Heap) (root : ℕ) → IsServed command → IsClosed h → last < GREATEST_ID
    → AnswersOver numbers boundary faults faults last command h h root root NoMemory None
no_place numbers boundary faults last command h root served closed left = record {
  form = λ opens. refl;
  closed = closed;
  counted = omega arith;
  told = tt;
  replied = record {
    media = tt;
    due = λ is volume held call shown asks. inr (inr refl);
    space = λ is volume held. inr (inr refl);
    reblock = λ fill is volume held. inr (inr refl);
  };
  flush = kept_same h h (record {
    bigblocks = refl;
    disk = refl;
    pages = record { committed = refl; frozen = refl; frozen_group = refl; boundary = refl };
    committed = refl;
    frozen = refl;
  });
  live = λ volume holds. live_same NoByte h root h.disk refl;
  paid = λ first calls paid. paid_later first (free_of h) calls (room_of h) paid;
  caused = λ first start counts history running entry is told before so_far.
      refused_goes_on first start (with_disk counts faults) (with_disk counts faults) last running history so_far (later_same (with_disk counts faults))
      entry left is.own
      (subst IsServed (sym is.call_is) served) no_memory is.reply_is tt;
  legal = λ first start counts history running opening foreigners events entry least is told before used so_far.
      refused_call first start (with_disk counts faults) (with_disk counts faults) history h root last running opening foreigners events so_far
      (later_same (with_disk counts faults)) left entry (subst IsServed (sym is.call_is) served) is.own h root
      (record { told = inr is.reply_is; holds = λ es holds. holds; size = refl });
  leads = λ first start counts history running opening foreigners events least used so_far volume holds. tt;
}
