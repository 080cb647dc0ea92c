use Rattle.hm_image.proofs.ExtentsOfLemmas.{placed_balanced, placed_live, placed_payloads}
use Rattle.hm_image.proofs.laws.extents.extents_of_elements_are_balanced.Goals as goal

pub returns-clause-live : goal.returns-clause-live
returns-clause-live c = placed_live

pub returns-clause-balanced : goal.returns-clause-balanced
returns-clause-balanced c = placed_balanced

pub returns-clause-payloads : goal.returns-clause-payloads
returns-clause-payloads c = placed_payloads
