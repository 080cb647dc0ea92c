use Rattle.hm_header.proofs.SlotLemmas.{length-body}
use Rattle.hm_header.proofs.laws.body_has_its_length.Goals as goal

pub returns : goal.returns
returns c = length-body
