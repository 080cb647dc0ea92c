use Rattle.hm_core.proofs.RepliedLemmas.{free_counted}
use Rattle.hm_core.proofs.laws.as_many_are_free_as_the_trees_leave.Goals as goal

pub returns : goal.returns
returns c = λ h root es closed holds. free_counted h root es closed holds
