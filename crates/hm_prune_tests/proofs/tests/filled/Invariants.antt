use Rattle.hm_key.specs.Balance.{IsBalanced}
use Rattle.hm_key.specs.Memory.{extents_of}
use Rattle.hm_prune_tests.proofs.tests.filled.Given as goal

-- the store is balanced
abbrev pub invariant-loop-key : goal.invariant-loop-key
invariant-loop-key l = IsBalanced l.store.elements.list.items (extents_of l.store.extents.list.items)
