use Rattle.hm_core.proofs.FaultLemmas.{no_damage_told}
use Rattle.hm_core.proofs.laws.a_fault_tells_no_damage.Goals as goal

pub returns : goal.returns
returns g c = λ old new es xs h root last volume result holds tells cause.
    no_damage_told old new es xs h root last volume result holds tells cause
