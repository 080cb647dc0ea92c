use Rattle.hm_calls_tests.specs.Tests.{IsReady}
use Rattle.hm_calls_tests.proofs.byte_script_tests.first_other_line.Given as goal

-- the store is ready for the next call
abbrev pub invariant-loop : goal.invariant-loop
invariant-loop g l = IsReady (g.T.HasElements.elements l.volume.store) (g.T.HasRoom.extents l.volume.store) l.volume.next
