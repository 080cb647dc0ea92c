use Rattle.hm_header.proofs.SlotLemmas.{encoded_is_chosen}
use Rattle.hm_header.proofs.laws.encoded_header_is_chosen.Goals as goal

pub returns : goal.returns
returns c = encoded_is_chosen
