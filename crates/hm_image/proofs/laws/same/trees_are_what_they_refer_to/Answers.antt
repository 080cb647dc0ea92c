use Rattle.hm_image.proofs.SameLemmas.{back_same, elements_same, references_same, tree_same}
use Rattle.hm_image.proofs.laws.same.trees_are_what_they_refer_to.Goals as goal

pub returns-clause-elements : goal.returns-clause-elements
returns-clause-elements c = elements_same

pub returns-clause-references : goal.returns-clause-references
returns-clause-references c = references_same

pub returns-clause-sound : goal.returns-clause-sound
returns-clause-sound c = tree_same

pub returns-clause-back : goal.returns-clause-back
returns-clause-back c = back_same
