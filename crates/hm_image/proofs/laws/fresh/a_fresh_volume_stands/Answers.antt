use Rattle.hm_image.proofs.FreshStandsLemmas.{fresh_stands}
use Rattle.hm_image.proofs.laws.fresh.a_fresh_volume_stands.Goals as goal

pub returns : goal.returns
returns c = fresh_stands
