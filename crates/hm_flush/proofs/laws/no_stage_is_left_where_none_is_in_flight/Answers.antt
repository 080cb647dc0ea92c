use Rattle.hm_flush.proofs.KeptLemmas.{left-none}
use Rattle.hm_flush.proofs.laws.no_stage_is_left_where_none_is_in_flight.Goals as goal

pub returns : goal.returns
returns c = λ f. left-none f.at f
