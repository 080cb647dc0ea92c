use Rattle.hm_model.proofs.KeptPastLemmas.{systems-cut}
use Rattle.hm_model.proofs.laws.endings.cut_passes_change_nothing.Goals as goal

pub returns : goal.returns
returns c = systems-cut
