use Rattle.std.proofs.Common.{Some}
use Rattle.hm_key.specs.Memory.{extents_of}
use Rattle.hm_calls_tests.specs.Tests.{IsReady}
use Rattle.hm_calls_tests.proofs.count_tests.counts_of_listing.Given as goal

-- the store is ready for the next call
abbrev pub invariant-loop-name : goal.invariant-loop-name
invariant-loop-name l = IsReady (Some l.volume.store.elements.list.items) (Some (extents_of l.volume.store.extents.list.items)) l.volume.next
