use Rattle.hm_search.specs.Descent.{levels_below}
use Rattle.hm_search.proofs.search.+last_below.Given as goal

abbrev pub decreases-last_below : goal.decreases-last_below
decreases-last_below g l = levels_below l.subtree.now
