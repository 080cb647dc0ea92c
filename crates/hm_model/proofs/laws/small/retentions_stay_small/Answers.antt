use Rattle.hm_model.proofs.SmallLemmas.{AreSmall-legal}
use Rattle.hm_model.proofs.laws.small.retentions_stay_small.Goals as goal

pub returns : goal.returns
returns c = AreSmall-legal
