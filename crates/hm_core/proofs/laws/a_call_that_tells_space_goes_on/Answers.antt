use Rattle.hm_core.proofs.SpaceLemmas.{space_told}
use Rattle.hm_core.proofs.laws.a_call_that_tells_space_goes_on.Goals as goal

pub returns : goal.returns
returns c = λ free start faults faults' history h root last running opening foreigners events entry so_far counted left call own tells.
    space_told free start faults faults' history h root last running opening foreigners events so_far counted left entry call own tells
