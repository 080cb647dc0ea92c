use Rattle.hm_header.proofs.SlotLemmas.{chosen_is_one}
use Rattle.hm_header.proofs.laws.chosen_header_is_one.Goals as goal

pub returns : goal.returns
returns c = chosen_is_one
