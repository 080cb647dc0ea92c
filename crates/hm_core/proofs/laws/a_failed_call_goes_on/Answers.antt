use Rattle.hm_core.proofs.CallLemmas.{failed_call}
use Rattle.hm_core.proofs.laws.a_failed_call_goes_on.Goals as goal

pub returns : goal.returns
returns c = λ free start faults faults' history h h' root root' last running opening foreigners events entry so_far counted is fails.
    failed_call free start faults faults' history h root last running opening foreigners events so_far counted entry is h' root' fails
