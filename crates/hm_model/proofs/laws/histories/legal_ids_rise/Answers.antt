use Rattle.hm_model.proofs.EventLemmas.{IsHistory-events}
use Rattle.hm_model.proofs.laws.histories.legal_ids_rise.Goals as goal

pub returns : goal.returns
returns c = IsHistory-events
