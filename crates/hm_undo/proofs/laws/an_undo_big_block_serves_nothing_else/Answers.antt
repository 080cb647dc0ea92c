use Rattle.hm_undo.proofs.LogLemmas.{undo-alone}
use Rattle.hm_undo.proofs.laws.an_undo_big_block_serves_nothing_else.Goals as goal

pub returns : goal.returns
returns c = undo-alone
