use Rattle.hm_node.specs.Node.{level_of, node_in}
use Rattle.hm_btree.proofs.remove.+remove_below.Given as goal

abbrev pub decreases-remove_below : goal.decreases-remove_below
decreases-remove_below g l = level_of (node_in l.page.now)
