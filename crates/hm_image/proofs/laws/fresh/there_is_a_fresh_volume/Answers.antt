use Rattle.hm_image.proofs.FreshThereLemmas.{fresh_there}
use Rattle.hm_image.proofs.laws.fresh.there_is_a_fresh_volume.Goals as goal

pub returns : goal.returns
returns c = fresh_there
