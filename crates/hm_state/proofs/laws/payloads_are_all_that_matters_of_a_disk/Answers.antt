use Rattle.hm_state.proofs.SameLemmas.{holds_same}
use Rattle.hm_state.proofs.laws.payloads_are_all_that_matters_of_a_disk.Goals as goal

pub returns : goal.returns
returns c = holds_same
