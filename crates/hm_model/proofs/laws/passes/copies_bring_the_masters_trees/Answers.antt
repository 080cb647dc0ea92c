use Rattle.hm_model.proofs.PassEndLemmas.{at-copied}
use Rattle.hm_model.proofs.laws.passes.copies_bring_the_masters_trees.Goals as goal

pub returns : goal.returns
returns c = at-copied
