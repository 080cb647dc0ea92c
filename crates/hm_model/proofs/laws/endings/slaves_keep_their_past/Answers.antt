use Rattle.hm_model.proofs.KeptPastLemmas.{at-kept}
use Rattle.hm_model.proofs.laws.endings.slaves_keep_their_past.Goals as goal

pub returns : goal.returns
returns c = at-kept
