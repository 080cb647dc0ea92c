use Rattle.hm_key.specs.Balance.{IsBalanced}
use Rattle.hm_key.specs.Memory.{extents_of}
use Rattle.hm_key.proofs.sweep.sweep_all.Given as goal

-- the store stays balanced
abbrev pub invariant-loop : goal.invariant-loop
invariant-loop l = IsBalanced l.store.elements.list.items (extents_of l.store.extents.list.items)
