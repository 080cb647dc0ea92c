use Rattle.std.proofs.Common.{refl}
use Rattle.hm_model.specs.Legal.{state_after}
use Rattle.hm_step.proofs.SeenLemmas.{shows_as}
use Rattle.hm_step.proofs.laws.elements_show_the_next_call.Goals as goal

pub returns : goal.returns
returns c = λ run before event es stand given reads. record {
  own = refl;
  hash_is = refl;
  shows = shows_as es (state_after run before).volume event.substitutes stand given;
  keys = stand.names;
  words = reads;
}
