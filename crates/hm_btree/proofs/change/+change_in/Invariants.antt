use Rattle.hm_node.specs.Node.{level_of, node_in}
use Rattle.hm_btree.proofs.change.+change_in.Given as goal

abbrev pub decreases-change_in : goal.decreases-change_in
decreases-change_in g l = level_of (node_in l.page.now)
