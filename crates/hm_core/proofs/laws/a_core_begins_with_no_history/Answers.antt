use Rattle.hm_core.proofs.BeginLemmas.{first}
use Rattle.hm_core.proofs.laws.a_core_begins_with_no_history.Goals as goal

pub returns : goal.returns
returns c = first
