use Rattle.hm_search.specs.Descent.{levels_below}
use Rattle.hm_search.proofs.search.+last_beside.Given as goal

abbrev pub decreases-last_beside : goal.decreases-last_beside
decreases-last_beside g l = levels_below l.subtree.now
