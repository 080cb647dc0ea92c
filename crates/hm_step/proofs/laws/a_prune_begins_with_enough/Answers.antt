use Rattle.hm_step.proofs.JobLemmas.{enough_kept, enough_nothing}
use Rattle.hm_step.proofs.laws.a_prune_begins_with_enough.Goals as goal

pub returns-clause-kept : goal.returns-clause-kept
returns-clause-kept c = λ volume pfs s kept there is none. enough_kept volume pfs kept none s there is

pub returns-clause-nothing : goal.returns-clause-nothing
returns-clause-nothing c = λ volume pfs kept is none. enough_nothing volume pfs kept none is
