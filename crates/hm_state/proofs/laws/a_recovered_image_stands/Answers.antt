use Rattle.hm_state.proofs.RecoveredLemmas.{recovered_stands}
use Rattle.hm_state.proofs.laws.a_recovered_image_stands.Goals as goal

pub returns : goal.returns
returns c = λ t header map volume image holds only bytes beside recovers.
    (recovers.result, recovers.recovers, recovered_stands t header map volume image recovers.result holds only bytes beside recovers.has)
