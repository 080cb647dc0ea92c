use Rattle.hm_calls_tests.specs.Tests.{IsReady}
use Rattle.hm_calls_tests.proofs.new_system_tests.first_other.Given as goal

-- the store is ready for the next call
abbrev pub invariant-loop-line : goal.invariant-loop-line
invariant-loop-line g l = IsReady (g.T.HasElements.elements l.volume.store) (g.T.HasRoom.extents l.volume.store) l.volume.next
