use Rattle.hm_key.specs.Balance.{Balanced}
use Rattle.hm_reblock_tests.proofs.roomy.run.Given as goal

-- the store stays balanced
abbrev pub invariant-loop-units : goal.invariant-loop-units
invariant-loop-units g l = Balanced (g.T.HasElements.elements l.store) (g.T.HasRoom.extents l.store)
