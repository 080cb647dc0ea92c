use Rattle.std.proofs.Common.{Some}
use Rattle.hm_key.specs.Memory.{extents_of}
use Rattle.hm_calls_tests.specs.Tests.{IsReady}
use Rattle.hm_calls_tests.proofs.count_tests.counts_after.Given as goal

-- the store is ready for the next call
abbrev pub invariant-loop-before : goal.invariant-loop-before
invariant-loop-before l = IsReady (Some l.volume.store.elements.list.items) (Some (extents_of l.volume.store.extents.list.items)) l.volume.next
