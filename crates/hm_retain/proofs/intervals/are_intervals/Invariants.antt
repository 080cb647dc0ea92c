use Rattle.std.proofs.Common.{◌↔◌, length}
use Rattle.hm_retain.specs.Intervals.{numbers_of, RiseFrom, IsIntervals}
use Rattle.hm_retain.specs.Growth.{least_after}
use Rattle.hm_retain.proofs.intervals.are_intervals.Given as goal

abbrev pub invariant-loop-list : goal.invariant-loop-list
invariant-loop-list l = RiseFrom (least_after l.before) (numbers_of l.list) ↔ IsIntervals (numbers_of l.fn.list)

abbrev pub decreases-loop-list : goal.decreases-loop-list
decreases-loop-list l = length l.list
