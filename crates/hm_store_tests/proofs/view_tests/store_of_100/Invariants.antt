use Rattle.hm_key.specs.Balance.{IsBalanced}
use Rattle.hm_key.specs.Memory.{extents_of}
use Rattle.hm_store_tests.proofs.view_tests.store_of_100.Given as goal

-- the store is balanced
abbrev pub invariant-loop-place : goal.invariant-loop-place
invariant-loop-place l = IsBalanced l.store.elements.list.items (extents_of l.store.extents.list.items)
