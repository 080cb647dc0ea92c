use Rattle.std.proofs.Common.{◌≤◌, length, take}
use Rattle.hm_node.specs.Places.{IsWritten}
use Rattle.hm_node.specs.Leaf.{element_in}
use Rattle.hm_node.proofs.leaf.write_elements.Given as goal

-- the elements that were passed are written
abbrev pub invariant-loop-i : goal.invariant-loop-i
invariant-loop-i l = (l.i ≤ length l.elements) × IsWritten element_in 52 (take l.i l.elements) l.fn.page l.page
