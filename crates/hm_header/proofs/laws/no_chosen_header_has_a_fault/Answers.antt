use Rattle.hm_header.proofs.SlotLemmas.{chosen_has_none}
use Rattle.hm_header.proofs.laws.no_chosen_header_has_a_fault.Goals as goal

pub returns : goal.returns
returns c = chosen_has_none
