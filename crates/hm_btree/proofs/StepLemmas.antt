-- How many levels a node has below it.
use Rattle.std.proofs.Common.{◌≤◌, arith}
use Rattle.hm_node.specs.Node.{HasLevel, level_of}
use Rattle.hm_node.specs.declared.node.Node.{Node}
use Rattle.hm_node.specs.declared.node.Node.TheVariants.{Leaf as leaf_node, Inner as inner_node}

-- a node has one level at least, and nine at most
pub level_least : (node : Node) → HasLevel node → 1 ≤ level_of node
level_least (leaf_node leaf) level = omega arith
level_least (inner_node inner) level = omega (arith, level.0)

pub level_most : (node : Node) → HasLevel node → level_of node ≤ 9
level_most (leaf_node leaf) level = omega arith
level_most (inner_node inner) level = omega (arith, level.1)
