use Rattle.hm_core.proofs.RefusedLemmas.{refused_call}
use Rattle.hm_core.proofs.laws.a_refused_call_goes_on.Goals as goal

pub returns : goal.returns
returns c = λ free start faults faults' history h h' root root' last running opening foreigners events entry so_far counted left asked own fails.
    refused_call free start faults faults' history h root last running opening foreigners events so_far counted left entry asked own h' root' fails
