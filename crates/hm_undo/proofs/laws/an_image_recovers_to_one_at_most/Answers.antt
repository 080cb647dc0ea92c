use Rattle.hm_undo.proofs.RecoveredLemmas.{recovery-is-one}
use Rattle.hm_undo.proofs.laws.an_image_recovers_to_one_at_most.Goals as goal

pub returns : goal.returns
returns c = recovery-is-one
