use Rattle.hm_header.proofs.KeptLemmas.{past-beside, past-counting, past-next}
use Rattle.hm_header.proofs.laws.writes_past_the_slots_leave_them.Goals as goal

pub returns-clause-first : goal.returns-clause-first
returns-clause-first c = past-counting

pub returns-clause-second : goal.returns-clause-second
returns-clause-second c = past-beside

pub returns-clause-third : goal.returns-clause-third
returns-clause-third c = past-next
