use Rattle.hm_node.specs.Node.{level_of, node_in}
use Rattle.hm_btree.proofs.insert.+insert_into.Given as goal

abbrev pub decreases-insert_into : goal.decreases-insert_into
decreases-insert_into g l = level_of (node_in l.page.now)
