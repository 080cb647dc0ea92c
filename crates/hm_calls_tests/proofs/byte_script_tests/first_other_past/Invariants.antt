use Rattle.hm_calls_tests.specs.Tests.{IsReady}
use Rattle.hm_calls_tests.proofs.byte_script_tests.first_other_past.Given as goal

-- the store is ready for the next call
abbrev pub invariant-loop-id : goal.invariant-loop-id
invariant-loop-id g l = IsReady (g.T.HasElements.elements l.volume.store) (g.T.HasRoom.extents l.volume.store) l.volume.next
