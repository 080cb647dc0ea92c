use Rattle.hm_step.proofs.SeenLemmas.{shows_as}
use Rattle.hm_step.proofs.laws.elements_show_their_volume.Goals as goal

pub returns : goal.returns
returns c = λ es volume substitutes stand given. shows_as es volume substitutes stand given
