use Rattle.std.proofs.Common.{◌≤◌, length, take}
use Rattle.hm_node.specs.Places.{IsWritten}
use Rattle.hm_node.specs.Inner.{child_in}
use Rattle.hm_node.proofs.inner.write_children.Given as goal

-- the children that were passed are written
abbrev pub invariant-loop-i : goal.invariant-loop-i
invariant-loop-i l = (l.i ≤ length l.children) × IsWritten child_in 56 (take l.i l.children) l.fn.page l.page
