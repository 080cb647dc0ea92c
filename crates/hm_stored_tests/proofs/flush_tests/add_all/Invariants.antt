use Rattle.std.proofs.Common.{◌≡◌}
use Rattle.hm_stored.specs.Heap.{frame_of}
use Rattle.hm_stored.specs.Space.{heap}
use Rattle.hm_stored_tests.proofs.flush_tests.add_all.Given as goal

abbrev pub invariant-loop-number : goal.invariant-loop-number
invariant-loop-number l = frame_of (heap l.store.space) ≡ frame_of (heap l.fn.store.space)
