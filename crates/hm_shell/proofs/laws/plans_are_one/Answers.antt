use Rattle.hm_shell.proofs.PlanLemmas.{plan_is_one}
use Rattle.hm_shell.proofs.laws.plans_are_one.Goals as goal

pub returns : goal.returns
returns c = plan_is_one
