use Rattle.hm_search.specs.Descent.{levels_below}
use Rattle.hm_search.proofs.search.+quiet_below.Given as goal

abbrev pub decreases-quiet_below : goal.decreases-quiet_below
decreases-quiet_below g l = levels_below l.subtree.now
