use Rattle.hm_image.proofs.WitnessLemmas.{key_refused, collision_fits}
use Rattle.hm_image.proofs.laws.refused.keys_of_other_names_are_refused.Goals as goal

pub returns-clause-refused : goal.returns-clause-refused
returns-clause-refused c = key_refused

pub returns-clause-collision : goal.returns-clause-collision
returns-clause-collision c = collision_fits
