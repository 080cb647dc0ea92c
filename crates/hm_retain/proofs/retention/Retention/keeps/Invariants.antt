use Rattle.std.proofs.Common.{length}
use Rattle.hm_retain.proofs.SearchLemmas.{IsSearched}
use Rattle.hm_retain.proofs.retention.Retention.keeps.Given as goal

abbrev pub invariant-loop-part : goal.invariant-loop-part
invariant-loop-part l = IsSearched l.self l.id.0 l.part

abbrev pub decreases-loop-part : goal.decreases-loop-part
decreases-loop-part l = length l.part
