use Rattle.hm_header.proofs.SlotLemmas.{encoded_takes_part}
use Rattle.hm_header.proofs.laws.encoded_slot_takes_part.Goals as goal

pub returns : goal.returns
returns c = encoded_takes_part
