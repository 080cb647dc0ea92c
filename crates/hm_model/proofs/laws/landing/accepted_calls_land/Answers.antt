use Rattle.hm_model.proofs.LandLemmas.{lands_accepted}
use Rattle.hm_model.proofs.laws.landing.accepted_calls_land.Goals as goal

pub returns : goal.returns
returns c = lands_accepted
