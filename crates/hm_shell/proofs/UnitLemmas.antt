-- The units of an open call, up to its ending.
use Rattle.std.proofs.Common.{◌≡◌, ℕ, Some, length, sym, ◌∙◌, ap, subst, inl, inr, arith}
use Rattle.std.specs.Prelude.{IsSome, List}
use Rattle.hm_flush.specs.declared.flush.Flush.{Flush}
use Rattle.hm_model.specs.declared.command.Command.TheVariants.{End}
use Rattle.hm_core.specs.Core.{Enters, Waits}
use Rattle.hm_core.specs.Jobs.{GoesOnByUnit, IsOpenJob, Units}
use Rattle.hm_core.specs.State.{CoreState, OpenJob, job_with, jobs_beside}
use Rattle.hm_core.specs.declared.ticket.Ticket.{Ticket}
use Rattle.hm_core.specs.declared.ticket.UnitEnd.TheVariants.{Ended, More}
use Rattle.hm_shell.specs.Serving.{EndsOrLacks, KeepsSize}
use Rattle.hm_shell.proofs.WaitLemmas.{waits_enters, waits_more}

-- a unit that goes on leaves the header of as many big-blocks
size_by_unit : (old new : CoreState) → GoesOnByUnit old new → KeepsSize old new
size_by_unit old new (inl stage) = stage.1.made.volume
size_by_unit old new (inr unit) = ap (λ (f : Flush). f.header.bigblocks) unit.2

-- A call was opened by the one id, and its ticket has the other, which is the same.
module _ (opening named : ℕ) (named_is : named ≡ opening) (old mid : CoreState) (waits : Waits old mid) where
  pub open_still : IsOpenJob opening old → IsOpenJob named mid
  open_still is = subst (λ (o : ℕ). IsOpenJob o mid) (sym named_is)
      (subst (λ (ps : List OpenJob). IsSome (job_with opening ps)) (sym waits.running) is)

  module _ (new : CoreState) where
    -- there is more to do
    module _ (back : Ticket) (units : Units named mid new (More back)) where
      pub waits_unit : Waits old new
      waits_unit = waits_more old mid new waits units.1

      pub size_unit : KeepsSize old mid → KeepsSize old new
      size_unit size = size_by_unit mid new units.2 ∙ size

      pub named_still : back.opening.0 ≡ opening
      named_still = units.0 ∙ named_is

    -- its ending was entered
    pub ending_entered : (place : ℕ) → Units named mid new (Ended place) → EndsOrLacks opening old new (Some place)
    ending_entered place units =
        let ends = (subst (λ (o : ℕ). Units o mid new (Ended place)) named_is units).1 in
        let since : Enters old new ends.job.lane ends.job.line mid.last (End (record { 0 = opening })) =
        waits_enters ends.job.lane ends.job.line mid.last (End (record { 0 = opening })) old mid new waits ends.enters in (
          units.0 ∙ ap length waits.history,
          record {
            job = ends.job;
            found = ap (job_with opening) (sym waits.running) ∙ ends.found;
            enters = subst (λ (s : ℕ). Enters old new ends.job.lane ends.job.line s (End (record { 0 = opening }))) waits.last since;
            closes = record {
              running = ends.closes.running ∙ ap (jobs_beside opening) waits.running;
              room = (let room = ends.closes.room in let same = waits.spare in omega (arith, room, same));
            };
          },
        )
