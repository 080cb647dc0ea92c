use Rattle.hm_header.proofs.SlotLemmas.{header_of_slot}
use Rattle.hm_header.proofs.laws.slot_in_range_has_a_header.Goals as goal

pub returns : goal.returns
returns c = header_of_slot
