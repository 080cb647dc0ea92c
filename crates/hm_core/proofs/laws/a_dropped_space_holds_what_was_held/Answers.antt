use Rattle.hm_core.proofs.OpenLemmas.{dropped_holds}
use Rattle.hm_core.proofs.laws.a_dropped_space_holds_what_was_held.Goals as goal

pub returns : goal.returns
returns c = λ h h' old new root last volume holds opens same current drops. dropped_holds h root last volume holds h' opens old new same current drops
