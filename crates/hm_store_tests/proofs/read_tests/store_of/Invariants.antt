use Rattle.hm_key.specs.Balance.{IsBalanced}
use Rattle.hm_key.specs.Memory.{extents_of}
use Rattle.hm_store_tests.proofs.read_tests.store_of.Given as goal

-- the store is balanced
abbrev pub invariant-loop-end : goal.invariant-loop-end
invariant-loop-end l = IsBalanced l.store.elements.list.items (extents_of l.store.extents.list.items)
