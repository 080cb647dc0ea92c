use Rattle.hm_key.specs.Balance.{IsBalanced}
use Rattle.hm_key.specs.Memory.{extents_of}
use Rattle.hm_store_tests.proofs.random_tests.other_past.Given as goal

-- the store is balanced
abbrev pub invariant-loop-bytes : goal.invariant-loop-bytes
invariant-loop-bytes l = IsBalanced l.store.elements.list.items (extents_of l.store.extents.list.items)
