use Rattle.hm_recover.proofs.DamageLemmas.{damage-is-one}
use Rattle.hm_recover.proofs.laws.the_damage_of_a_range_is_one.Goals as goal

pub returns : goal.returns
returns c = damage-is-one
