use Rattle.hm_model.proofs.MasterLemmas.{at-event}
use Rattle.hm_model.proofs.laws.masters.only_passes_and_upgrades_rewrite.Goals as goal

pub returns : goal.returns
returns c = at-event
