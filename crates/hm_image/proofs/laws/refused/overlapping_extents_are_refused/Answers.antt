use Rattle.hm_image.proofs.WitnessLemmas.{overlap_refused, next_apart, one_extent}
use Rattle.hm_image.proofs.laws.refused.overlapping_extents_are_refused.Goals as goal

pub returns-clause-refused : goal.returns-clause-refused
returns-clause-refused c = overlap_refused

pub returns-clause-apart : goal.returns-clause-apart
returns-clause-apart c = next_apart

pub returns-clause-one : goal.returns-clause-one
returns-clause-one c = one_extent
