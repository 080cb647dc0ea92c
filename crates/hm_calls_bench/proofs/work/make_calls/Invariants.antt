use Rattle.hm_calls_tests.specs.Tests.{IsReady}
use Rattle.hm_calls_bench.proofs.work.make_calls.Given as goal

-- the store is ready for the next call
abbrev pub invariant-loop-before : goal.invariant-loop-before
invariant-loop-before g l = IsReady (g.T.HasElements.elements l.volume.store) (g.T.HasRoom.extents l.volume.store) l.volume.next
