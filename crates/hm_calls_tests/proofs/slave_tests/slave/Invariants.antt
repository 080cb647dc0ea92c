use Rattle.std.proofs.Common.{Some}
use Rattle.hm_key.specs.Memory.{extents_of}
use Rattle.hm_calls_tests.specs.Tests.{IsMade}
use Rattle.hm_calls_tests.proofs.slave_tests.slave.Given as goal

-- all ids are below the next one
abbrev pub invariant-loop-item : goal.invariant-loop-item
invariant-loop-item l =
    IsMade (Some l.volume.store.elements.list.items) (Some (extents_of l.volume.store.extents.list.items)) l.volume.next
