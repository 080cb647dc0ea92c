use Rattle.hm_core.proofs.SpaceLemmas.{sync_told}
use Rattle.hm_core.proofs.laws.a_sync_goes_on.Goals as goal

pub returns : goal.returns
returns c = λ free start faults faults' history h root last running opening foreigners events entry boundary so_far counted left sync own is drawn told.
    sync_told free start faults faults' history h root last running opening foreigners events so_far counted left entry boundary sync own is drawn told
