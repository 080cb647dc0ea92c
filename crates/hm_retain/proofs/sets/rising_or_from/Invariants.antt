use Rattle.std.proofs.Common.{length}
use Rattle.hm_retain.proofs.ListedLemmas.{IsListing}
use Rattle.hm_retain.proofs.sets.rising_or_from.Given as goal

abbrev pub invariant-loop-ids : goal.invariant-loop-ids
invariant-loop-ids l = IsListing l.fn.ids l.from.0 l.ids l.set

abbrev pub decreases-loop-ids : goal.decreases-loop-ids
decreases-loop-ids l = length l.ids
