use Rattle.std.proofs.Common.{◌+◌, length}
use Rattle.hm_retain.specs.Intervals.{numbers_of}
use Rattle.hm_retain.proofs.WalkLemmas.{IsShared}
use Rattle.hm_retain.proofs.sets.intersection.Given as goal

abbrev pub invariant-loop-a : goal.invariant-loop-a
invariant-loop-a l = IsShared (numbers_of l.fn.a) (numbers_of l.fn.b) (numbers_of l.a) (numbers_of l.b) l.set

abbrev pub decreases-loop-a : goal.decreases-loop-a
decreases-loop-a l = length l.a + length l.b
