use Rattle.hm_header.proofs.SlotLemmas.{closed_first}
use Rattle.hm_header.proofs.laws.closed_first_slot_is_ignored.Goals as goal

pub returns : goal.returns
returns c = closed_first
