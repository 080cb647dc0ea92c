use Rattle.hm_search.specs.Descent.{levels_below}
use Rattle.hm_search.proofs.search.+first_below.Given as goal

abbrev pub decreases-first_below : goal.decreases-first_below
decreases-first_below g l = levels_below l.subtree.now
