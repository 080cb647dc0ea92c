use Rattle.hm_state.proofs.StaysLemmas.{written_stays}
use Rattle.hm_state.proofs.laws.what_was_written_stays.Goals as goal

pub returns : goal.returns
returns c = λ h root old new tree only written freemap same. written_stays h root tree only old new freemap same written
