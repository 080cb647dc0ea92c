use Rattle.hm_core.proofs.CallLemmas.{served_call}
use Rattle.hm_core.proofs.laws.a_served_call_goes_on.Goals as goal

pub returns : goal.returns
returns g c = λ free start faults faults' history h h' root root' last running opening foreigners events entry numbers answered old new so_far used
    counted is serves form.
    served_call free start faults faults' history h root last running opening foreigners events so_far counted entry is
    g.T.HasElements.elements g.T.HasRoom.extents g.T.HasRoom.free numbers used answered old new h' root' serves form
