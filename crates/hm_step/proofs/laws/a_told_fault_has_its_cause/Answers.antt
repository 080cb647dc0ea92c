use Rattle.hm_step.proofs.CauseLemmas.{fault_cause}
use Rattle.hm_step.proofs.laws.a_told_fault_has_its_cause.Goals as goal

pub returns : goal.returns
returns c = λ now known event next tells numbers. fault_cause known event next now tells numbers
