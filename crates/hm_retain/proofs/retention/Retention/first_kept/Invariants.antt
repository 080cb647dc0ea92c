use Rattle.std.proofs.Common.{length}
use Rattle.hm_retain.proofs.FirstKeptLemmas.{IsSought}
use Rattle.hm_retain.proofs.retention.Retention.first_kept.Given as goal

abbrev pub invariant-loop-part : goal.invariant-loop-part
invariant-loop-part l = IsSought l.self l.id.0 l.part l.next

abbrev pub decreases-loop-part : goal.decreases-loop-part
decreases-loop-part l = length l.part
