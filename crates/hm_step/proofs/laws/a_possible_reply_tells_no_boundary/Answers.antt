use Rattle.hm_step.proofs.EarlyLemmas.{no_boundary}
use Rattle.hm_step.proofs.laws.a_possible_reply_tells_no_boundary.Goals as goal

pub returns : goal.returns
returns c = λ last busy command paths reply of_trees reads may. no_boundary last busy command paths reply of_trees reads may
