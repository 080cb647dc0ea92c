use Rattle.hm_retain.proofs.SameLemmas.{same_list}
use Rattle.hm_retain.proofs.laws.one_list_for_each_set.Goals as goal

pub returns : goal.returns
returns c = same_list
