use Rattle.std.proofs.Common.{Some}
use Rattle.hm_key.specs.Memory.{extents_of}
use Rattle.hm_store_tests.specs.Tests.{IsReady}
use Rattle.hm_store_tests.proofs.dirs_tests.store_of.Given as goal

-- the store is ready for the next id
abbrev pub invariant-loop-change : goal.invariant-loop-change
invariant-loop-change g l = IsReady (Some l.store.elements.list.items) (Some (extents_of l.store.extents.list.items)) l.id
