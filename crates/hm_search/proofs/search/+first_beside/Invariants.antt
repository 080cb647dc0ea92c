use Rattle.hm_search.specs.Descent.{levels_below}
use Rattle.hm_search.proofs.search.+first_beside.Given as goal

abbrev pub decreases-first_beside : goal.decreases-first_beside
decreases-first_beside g l = levels_below l.subtree.now
