use Rattle.std.proofs.Common.{Some}
use Rattle.hm_key.specs.Memory.{extents_of}
use Rattle.hm_calls_tests.specs.Tests.{IsReady}
use Rattle.hm_calls_tests.proofs.prune_tests.volume_after.Given as goal

-- the store is ready for the next call
abbrev pub invariant-loop-line : goal.invariant-loop-line
invariant-loop-line l = IsReady (Some l.volume.store.elements.list.items) (Some (extents_of l.volume.store.extents.list.items)) l.volume.next
