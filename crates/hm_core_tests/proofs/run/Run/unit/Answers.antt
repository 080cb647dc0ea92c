use Rattle.std.proofs.Common.{ap}
use Rattle.hm_types.specs.declared.id.Id.{Id}
use Rattle.hm_core_tests.proofs.RunLemmas.{ended_tickets}
use Rattle.hm_core_tests.proofs.run.Run.unit.Goals as goal

pub invariant_of-self-in-Ended : goal.invariant_of-self-in-Ended
invariant_of-self-in-Ended g c =
    record {
      named = ended_tickets c.remove-ticket.result.opening.0 _ (ap (λ (id : Id). id.0) c.opening-opening.ensures) _ _
          c.in-Ended.ensures.units.1.closes.running _ _ _ c.args.index c.remove-ticket.ensures.by_index.2 c.close.ensures c.args.self.now.named;
    }

pub invariant_of-self-in-Spent : goal.invariant_of-self-in-Spent
invariant_of-self-in-Spent g c =
    record {
      named = ended_tickets c.remove-ticket.result.opening.0 _ (ap (λ (id : Id). id.0) c.opening-opening.ensures) _ _
          c.in-Spent.ensures.units.closes.running _ _ _ c.args.index c.remove-ticket.ensures.by_index.2 c.close-in-Spent.ensures c.args.self.now.named;
    }
