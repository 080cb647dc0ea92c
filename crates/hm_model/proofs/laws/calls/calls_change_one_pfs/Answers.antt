use Rattle.hm_model.proofs.ChangeLemmas.{found-change, found-unadded}
use Rattle.hm_model.proofs.NewPfsLemmas.{system-changed}
use Rattle.hm_model.proofs.laws.calls.calls_change_one_pfs.Goals as goal

pub returns-clause-others : goal.returns-clause-others
returns-clause-others c = found-change

pub returns-clause-all : goal.returns-clause-all
returns-clause-all c = found-unadded

pub returns-clause-changed : goal.returns-clause-changed
returns-clause-changed c = system-changed
