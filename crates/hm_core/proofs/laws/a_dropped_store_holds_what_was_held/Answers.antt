use Rattle.hm_core.proofs.OpenLemmas.{store_dropped}
use Rattle.hm_core.proofs.laws.a_dropped_store_holds_what_was_held.Goals as goal

pub returns : goal.returns
returns c = λ h h' old new root root' back last volume holds opens same held. store_dropped h root last volume holds h' root' opens old new back same held
