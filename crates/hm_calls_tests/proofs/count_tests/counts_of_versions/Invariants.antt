use Rattle.std.proofs.Common.{Some}
use Rattle.hm_key.specs.Memory.{extents_of}
use Rattle.hm_calls_tests.specs.Tests.{IsMade}
use Rattle.hm_calls_tests.proofs.count_tests.counts_of_versions.Given as goal

-- all ids are below the next one
abbrev pub invariant-loop : goal.invariant-loop
invariant-loop l = IsMade (Some l.volume.store.elements.list.items) (Some (extents_of l.volume.store.extents.list.items)) l.volume.next
