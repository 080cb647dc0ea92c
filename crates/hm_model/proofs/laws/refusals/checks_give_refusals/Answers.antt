use Rattle.hm_model.proofs.CheckLemmas.{refusal_refuses}
use Rattle.hm_model.proofs.laws.refusals.checks_give_refusals.Goals as goal

pub returns : goal.returns
returns c = refusal_refuses
