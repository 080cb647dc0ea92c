use Rattle.hm_search.specs.Descent.{levels_below}
use Rattle.hm_search.proofs.search.+find_below.Given as goal

abbrev pub decreases-find_below : goal.decreases-find_below
decreases-find_below g l = levels_below l.subtree.now
