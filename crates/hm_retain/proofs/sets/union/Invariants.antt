use Rattle.std.proofs.Common.{◌+◌, length}
use Rattle.hm_retain.specs.Intervals.{numbers_of}
use Rattle.hm_retain.proofs.UnionLemmas.{IsUnion}
use Rattle.hm_retain.proofs.sets.union.Given as goal

abbrev pub invariant-loop-interval : goal.invariant-loop-interval
invariant-loop-interval l = IsUnion (numbers_of l.fn.a) (numbers_of l.fn.b) (numbers_of l.a) (numbers_of l.b) l.set

abbrev pub decreases-loop-interval : goal.decreases-loop-interval
decreases-loop-interval l = length (numbers_of l.a) + length (numbers_of l.b)
