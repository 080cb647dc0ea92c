use Rattle.hm_core.proofs.OpenLemmas.{opened_tells}
use Rattle.hm_core.proofs.laws.an_opened_space_tells_what_was_held.Goals as goal

pub returns : goal.returns
returns c = λ h h' root last volume holds opens. opened_tells h root last volume holds h' opens
