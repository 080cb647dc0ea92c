use Rattle.hm_node.specs.Node.{level_of, node_in}
use Rattle.hm_btree.proofs.top.+lowest.Given as goal

abbrev pub decreases-lowest : goal.decreases-lowest
decreases-lowest g l = level_of (node_in l.page.now)
