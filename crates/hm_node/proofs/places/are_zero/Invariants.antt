use Rattle.std.proofs.Common.{◌+◌, ◌*◌}
use Rattle.hm_node.specs.Places.{IsZero}
use Rattle.hm_node.proofs.places.are_zero.Given as goal

-- all before the word that is next is 0
abbrev pub invariant-loop-i : goal.invariant-loop-i
invariant-loop-i l = IsZero l.page l.from (l.from + 8 * l.i)
