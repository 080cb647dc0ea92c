use Rattle.hm_step.proofs.PrunedLemmas.{stand_pruned}
use Rattle.hm_step.proofs.laws.a_prune_leaves_what_stands.Goals as goal

pub returns : goal.returns
returns c = λ es es' volume kept stand loses within. stand_pruned kept es es' volume stand loses within
