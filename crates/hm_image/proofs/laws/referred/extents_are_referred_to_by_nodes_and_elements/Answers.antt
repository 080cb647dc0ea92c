use Rattle.hm_image.proofs.ReferredLemmas.{references_counted}
use Rattle.hm_image.proofs.laws.referred.extents_are_referred_to_by_nodes_and_elements.Goals as goal

pub returns : goal.returns
returns c = references_counted
