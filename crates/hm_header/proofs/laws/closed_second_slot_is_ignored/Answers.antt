use Rattle.hm_header.proofs.SlotLemmas.{closed_second}
use Rattle.hm_header.proofs.laws.closed_second_slot_is_ignored.Goals as goal

pub returns : goal.returns
returns c = closed_second
