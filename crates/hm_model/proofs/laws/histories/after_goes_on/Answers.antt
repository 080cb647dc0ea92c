use Rattle.hm_model.specs.After.{opening_state}
use Rattle.hm_model.proofs.EventLemmas.{after_events-push}
use Rattle.hm_model.proofs.laws.histories.after_goes_on.Goals as goal

pub returns : goal.returns
returns c volume foreigners = after_events-push (opening_state volume foreigners)
