use Rattle.hm_node.specs.Node.{level_of, node_in}
use Rattle.hm_btree.proofs.move_node.+move_below.Given as goal

abbrev pub decreases-move_below : goal.decreases-move_below
decreases-move_below g l = level_of (node_in l.page.now)
