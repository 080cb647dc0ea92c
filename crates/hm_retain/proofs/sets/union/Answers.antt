use Rattle.hm_retain.proofs.GrowthLemmas.{number_pair}
use Rattle.hm_retain.proofs.UnionLemmas.{IsUnion-begin, IsUnion-step}
use Rattle.hm_retain.proofs.sets.union.Goals as goal

pub add-requires-clause-rising : goal.add-requires-clause-rising
add-requires-clause-rising c = IsUnion-begin _ _ _ _ (number_pair c.in-Some.interval) _ _ c.loop-interval.set c.loop-interval.invariant c.in-Some.ensures

pub loop-interval-preserved : goal.loop-interval-preserved
loop-interval-preserved c = IsUnion-step _ _ _ _ (number_pair c.in-Some.interval) _ _ _ _ c.loop-interval.invariant c.in-Some.ensures c.in_ok-add.ensures
