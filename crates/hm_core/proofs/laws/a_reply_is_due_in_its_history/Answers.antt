use Rattle.hm_core.proofs.RepliedLemmas.{due_next}
use Rattle.hm_core.proofs.laws.a_reply_is_due_in_its_history.Goals as goal

pub returns : goal.returns
returns c = due_next
