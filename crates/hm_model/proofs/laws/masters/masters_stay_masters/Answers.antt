use Rattle.hm_model.proofs.SteadyLemmas.{master_throughout}
use Rattle.hm_model.proofs.laws.masters.masters_stay_masters.Goals as goal

pub returns : goal.returns
returns c = master_throughout
