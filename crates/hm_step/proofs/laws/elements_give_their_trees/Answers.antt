use Rattle.hm_step.proofs.SubstituteLemmas.{trees_given}
use Rattle.hm_step.proofs.laws.elements_give_their_trees.Goals as goal

pub returns : goal.returns
returns c = trees_given
