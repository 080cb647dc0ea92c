use Rattle.std.proofs.Common.{◌≡◌}
use Rattle.hm_node.specs.Inner.{first_children}
use Rattle.hm_node.proofs.inner.read_children.Given as goal

-- the children that were passed were read
abbrev pub invariant-loop-i : goal.invariant-loop-i
invariant-loop-i l = l.into.items ≡ first_children l.page l.i
