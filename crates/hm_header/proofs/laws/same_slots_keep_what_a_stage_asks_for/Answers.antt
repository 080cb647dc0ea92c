use Rattle.hm_header.proofs.KeptLemmas.{same-beside, same-counting, same-next}
use Rattle.hm_header.proofs.laws.same_slots_keep_what_a_stage_asks_for.Goals as goal

pub returns-clause-first : goal.returns-clause-first
returns-clause-first c = same-counting

pub returns-clause-second : goal.returns-clause-second
returns-clause-second c = same-beside

pub returns-clause-third : goal.returns-clause-third
returns-clause-third c = same-next
