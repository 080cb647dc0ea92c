use Rattle.hm_image.proofs.WitnessLemmas.{unfilled_refused, filled_there}
use Rattle.hm_image.proofs.laws.refused.extents_past_the_filled_part_are_refused.Goals as goal

pub returns-clause-refused : goal.returns-clause-refused
returns-clause-refused c = unfilled_refused

pub returns-clause-filled : goal.returns-clause-filled
returns-clause-filled c = filled_there
