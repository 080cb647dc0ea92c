use Rattle.hm_step.proofs.NextLemmas.{after_next}
use Rattle.hm_step.proofs.laws.drawing_an_id_leaves_what_stands.Goals as goal

pub returns : goal.returns
returns c = λ es volume stand left. after_next es volume stand left
