use Rattle.std.proofs.Common.{ap}
use Rattle.hm_core.specs.State.{CoreState}
use Rattle.hm_core_tests.proofs.RunLemmas.{opened_tickets}
use Rattle.hm_core_tests.proofs.run.Run.answer.Goals as goal

pub invariant_of-self-in-Opened : goal.invariant_of-self-in-Opened
invariant_of-self-in-Opened g c =
    let opens = c.in-Opened.ensures.steps.1 in
    record {
      named = opened_tickets _ _ _ opens.job c.in-Opened.ticket (ap (λ (s : CoreState). s.running) c.in_ok-reserve.ensures.keeps)
          opens.running opens.found _ _ _ c.push.ensures.items c.args.self.now.named;
    }
