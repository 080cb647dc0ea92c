use Rattle.hm_key.specs.Balance.{IsBalanced}
use Rattle.hm_key.specs.Memory.{extents_of}
use Rattle.hm_store_tests.proofs.random_tests.run.Given as goal

-- the store is balanced
abbrev pub invariant-loop-id : goal.invariant-loop-id
invariant-loop-id l = IsBalanced l.store.elements.list.items (extents_of l.store.extents.list.items)
