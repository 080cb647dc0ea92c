use Rattle.std.proofs.Common.{◌≡◌}
use Rattle.hm_node.specs.Leaf.{first_elements}
use Rattle.hm_node.proofs.leaf.read_elements.Given as goal

-- the elements that were passed were read
abbrev pub invariant-loop-i : goal.invariant-loop-i
invariant-loop-i l = l.into.items ≡ first_elements l.page l.i
