use Rattle.hm_node.specs.Node.{level_of}
use Rattle.hm_bench.proofs.shape.Shape.+add.Given as goal

abbrev pub decreases-add : goal.decreases-add
decreases-add g l = level_of l.node.now
