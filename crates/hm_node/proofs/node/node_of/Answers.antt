use Rattle.hm_node.proofs.ReadyLemmas.{leaf_page}
use Rattle.hm_node.proofs.node.node_of.Goals as goal

pub of-requires : goal.of-requires
of-requires c = leaf_page c.args.page.now c.read.result c.read.ensures.value c.if-read-eq-LEAF.true c.requires
