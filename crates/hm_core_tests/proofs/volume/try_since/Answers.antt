use Rattle.std.proofs.Common.{ap}
use Rattle.hm_core.specs.State.{CoreState}
use Rattle.hm_core_tests.proofs.RunLemmas.{one_more}
use Rattle.hm_core_tests.proofs.volume.try_since.Goals as goal

pub returns-in-Opened : goal.returns-in-Opened
returns-in-Opened g c opening there =
    let opens = c.in-Opened.ensures.steps.1 in
    one_more _ _ _ opens.job (ap (λ (s : CoreState). s.running) c.in_ok-reserve.ensures.keeps) opens.running opening there
