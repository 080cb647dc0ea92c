use Rattle.hm_header.proofs.KeptLemmas.{settled-beside, settled-counting, settled-next}
use Rattle.hm_header.proofs.laws.settled_slots_are_left.Goals as goal

pub returns-clause-first : goal.returns-clause-first
returns-clause-first c = settled-counting

pub returns-clause-second : goal.returns-clause-second
returns-clause-second c = settled-beside

pub returns-clause-third : goal.returns-clause-third
returns-clause-third c = settled-next
