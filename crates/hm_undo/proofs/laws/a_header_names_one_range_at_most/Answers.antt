use Rattle.hm_undo.proofs.RangeLemmas.{range-is-one}
use Rattle.hm_undo.proofs.laws.a_header_names_one_range_at_most.Goals as goal

pub returns : goal.returns
returns c = range-is-one
