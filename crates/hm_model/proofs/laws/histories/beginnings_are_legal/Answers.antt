use Rattle.hm_model.proofs.EventLemmas.{IsLegal-beginning}
use Rattle.hm_model.proofs.laws.histories.beginnings_are_legal.Goals as goal

pub returns : goal.returns
returns c = IsLegal-beginning
