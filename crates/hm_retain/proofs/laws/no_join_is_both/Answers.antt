use Rattle.hm_retain.proofs.SameLemmas.{not_retention}
use Rattle.hm_retain.proofs.laws.no_join_is_both.Goals as goal

pub returns : goal.returns
returns c set other begin end count join many is = not_retention _ count join many is
