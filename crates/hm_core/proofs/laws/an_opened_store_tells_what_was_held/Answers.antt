use Rattle.hm_core.proofs.OpenLemmas.{store_tells}
use Rattle.hm_core.proofs.laws.an_opened_store_tells_what_was_held.Goals as goal

pub returns : goal.returns
returns c = λ h h' root root' last volume holds opens. store_tells h root last volume holds h' root' opens
