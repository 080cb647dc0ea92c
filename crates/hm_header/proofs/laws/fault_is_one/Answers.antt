use Rattle.hm_header.proofs.SlotLemmas.{fault_is_one}
use Rattle.hm_header.proofs.laws.fault_is_one.Goals as goal

pub returns : goal.returns
returns c = fault_is_one
