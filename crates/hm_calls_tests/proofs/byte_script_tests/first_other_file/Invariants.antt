use Rattle.hm_calls_tests.specs.Tests.{IsReady}
use Rattle.hm_calls_tests.proofs.byte_script_tests.first_other_file.Given as goal

-- the store is ready for the next call
abbrev pub invariant-loop-file : goal.invariant-loop-file
invariant-loop-file g l = IsReady (g.T.HasElements.elements l.volume.store) (g.T.HasRoom.extents l.volume.store) l.volume.next
