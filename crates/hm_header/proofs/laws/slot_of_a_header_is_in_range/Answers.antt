use Rattle.hm_header.proofs.RangeLemmas.{spelled_in_range}
use Rattle.hm_header.proofs.laws.slot_of_a_header_is_in_range.Goals as goal

pub returns : goal.returns
returns c = spelled_in_range
