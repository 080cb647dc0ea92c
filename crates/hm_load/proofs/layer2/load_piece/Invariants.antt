use Rattle.hm_pages.specs.Store.{contents}
use Rattle.hm_load.specs.Loaded.{LoadsPages}
use Rattle.hm_load.proofs.layer2.load_piece.Given as goal

-- the first pages came
abbrev pub invariant-loop-k : goal.invariant-loop-k
invariant-loop-k l = LoadsPages l.header l.number l.k l.bytes (contents l.fn.store) (contents l.store)
