use Rattle.hm_records.specs.Laws.{counts_of}
use Rattle.hm_records.proofs.MadeLemmas.{beside_alone}
use Rattle.hm_records.proofs.SubjectLemmas.{beside_other, beside_type}
use Rattle.hm_records.proofs.views.untouched.trees_are_of_their_own_elements.Goals as goal

pub returns-clause-beside : goal.returns-clause-beside
returns-clause-beside c = λ old new pfs s now tree has beside overrides. beside_alone pfs s now tree (counts_of old) (counts_of new) has beside overrides

pub returns-clause-others : goal.returns-clause-others
returns-clause-others c = beside_other

pub returns-clause-types : goal.returns-clause-types
returns-clause-types c = beside_type
