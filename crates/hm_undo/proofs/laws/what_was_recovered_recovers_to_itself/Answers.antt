use Rattle.hm_undo.proofs.RecoveredLemmas.{recovered-again}
use Rattle.hm_undo.proofs.laws.what_was_recovered_recovers_to_itself.Goals as goal

pub returns : goal.returns
returns c = recovered-again
