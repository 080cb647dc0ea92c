use Rattle.hm_load.proofs.OnceLemmas.{damage_once}
use Rattle.hm_load.proofs.laws.the_first_damage_is_one.Goals as goal

pub returns : goal.returns
returns c = damage_once
