use Rattle.hm_model.proofs.MadeLemmas.{master_made, steady_from}
use Rattle.hm_model.proofs.laws.made.made_masters_stay_masters.Goals as goal

pub returns-clause-made : goal.returns-clause-made
returns-clause-made c = master_made

pub returns-clause-stays : goal.returns-clause-stays
returns-clause-stays c = steady_from
