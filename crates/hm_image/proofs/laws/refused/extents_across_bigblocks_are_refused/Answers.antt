use Rattle.hm_image.proofs.WitnessLemmas.{across_refused, inside_placed}
use Rattle.hm_image.proofs.laws.refused.extents_across_bigblocks_are_refused.Goals as goal

pub returns-clause-refused : goal.returns-clause-refused
returns-clause-refused c = across_refused

pub returns-clause-inside : goal.returns-clause-inside
returns-clause-inside c = inside_placed
