use Rattle.hm_key.specs.Balance.{IsBalanced}
use Rattle.hm_key.specs.Memory.{extents_of}
use Rattle.hm_store_tests.proofs.cut_tests.store_after.Given as goal

-- the store is balanced
abbrev pub invariant-loop-step : goal.invariant-loop-step
invariant-loop-step l = IsBalanced l.store.elements.list.items (extents_of l.store.extents.list.items)
