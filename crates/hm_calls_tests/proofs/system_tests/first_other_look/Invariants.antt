use Rattle.hm_calls_tests.specs.Tests.{IsReady}
use Rattle.hm_calls_tests.proofs.system_tests.first_other_look.Given as goal

-- the store is ready for the next call
abbrev pub invariant-loop-name : goal.invariant-loop-name
invariant-loop-name g l = IsReady (g.T.HasElements.elements l.volume.store) (g.T.HasRoom.extents l.volume.store) l.volume.next
