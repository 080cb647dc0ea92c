use Rattle.hm_recover.proofs.DamageLemmas.{recovers-whole}
use Rattle.hm_recover.proofs.laws.an_image_that_recovers_has_no_damage.Goals as goal

pub returns : goal.returns
returns c = recovers-whole
