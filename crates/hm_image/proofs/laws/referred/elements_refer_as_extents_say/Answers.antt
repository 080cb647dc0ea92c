use Rattle.hm_image.proofs.ReferredLemmas.{elements_counted}
use Rattle.hm_image.proofs.laws.referred.elements_refer_as_extents_say.Goals as goal

pub returns : goal.returns
returns c = elements_counted
