use Rattle.hm_records.proofs.OpenLemmas.{open_is_last, open_is_none}
use Rattle.hm_records.proofs.laws.open_end_is_that_of_the_last_interval.Goals as goal

pub returns : goal.returns
returns c = record { last = open_is_last; none = open_is_none }
