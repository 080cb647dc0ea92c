use Rattle.hm_image.proofs.WitnessLemmas.{many_refused, few_there}
use Rattle.hm_image.proofs.laws.refused.references_past_64_are_refused.Goals as goal

pub returns-clause-refused : goal.returns-clause-refused
returns-clause-refused c = many_refused

pub returns-clause-few : goal.returns-clause-few
returns-clause-few c = few_there
