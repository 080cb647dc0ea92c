use Rattle.hm_key.specs.Balance.{IsBalanced}
use Rattle.hm_key.specs.Memory.{extents_of}
use Rattle.hm_reblock_tests.proofs.tests.each_unit_moves_an_extent_of_a_store_in_memory.Given as goal

-- the store is balanced
abbrev pub invariant-loop-key : goal.invariant-loop-key
invariant-loop-key g l = IsBalanced l.store.elements.list.items (extents_of l.store.extents.list.items)

abbrev pub invariant-loop-units : goal.invariant-loop-units
invariant-loop-units g l = IsBalanced l.store.elements.list.items (extents_of l.store.extents.list.items)
