use Rattle.hm_model.proofs.NewPfsLemmas.{system-new_master, system-new_slave}
use Rattle.hm_model.proofs.laws.calls.new_systems_begin_empty.Goals as goal

pub returns-clause-master : goal.returns-clause-master
returns-clause-master c = system-new_master

pub returns-clause-slave : goal.returns-clause-slave
returns-clause-slave c = system-new_slave
