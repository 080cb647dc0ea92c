use Rattle.hm_step.proofs.UsedLemmas.{made_used, stay_used}
use Rattle.hm_step.proofs.laws.numbers_stay_used.Goals as goal

pub returns-clause-stay : goal.returns-clause-stay
returns-clause-stay c = λ run before event numbers used. stay_used run before event numbers used

pub returns-clause-made : goal.returns-clause-made
returns-clause-made c = λ run before event number adds is follows. made_used run before event number adds is follows
