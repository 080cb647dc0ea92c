use Rattle.std.proofs.Common.{rules}
use Rattle.hm_retain.proofs.GrowthLemmas.{rises_on}
use Rattle.hm_retain.proofs.intervals.are_intervals.Goals as goal

pub loop-list-preserved : goal.loop-list-preserved
loop-list-preserved c = rises_on c.loop-list.list.now (record { 0 = 0 }, record { 0 = 0 }) _ _ c.loop-list.invariant c.in-len1-up.len_at_least (search rules)
