use Rattle.hm_flush.proofs.KeptLemmas.{stands-still-there}
use Rattle.hm_flush.proofs.laws.same_slots_keep_what_a_flush_asks_for.Goals as goal

pub returns : goal.returns
returns c = stands-still-there
