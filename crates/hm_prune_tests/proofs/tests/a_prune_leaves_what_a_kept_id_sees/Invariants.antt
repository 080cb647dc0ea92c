use Rattle.hm_key.specs.Balance.{IsBalanced}
use Rattle.hm_key.specs.Memory.{extents_of}
use Rattle.hm_prune_tests.proofs.tests.a_prune_leaves_what_a_kept_id_sees.Given as goal

-- the store is balanced
abbrev pub invariant-loop-pfs : goal.invariant-loop-pfs
invariant-loop-pfs g l = IsBalanced l.store.elements.list.items (extents_of l.store.extents.list.items)
