use Rattle.hm_model.specs.Due.{new_pfs}
use Rattle.hm_model.proofs.NumberLemmas.{least_unused-is, numbers_in, unused_none, used_some}
use Rattle.hm_model.proofs.laws.calls.new_numbers_are_unused.Goals as goal

pub returns-clause-unused : goal.returns-clause-unused
returns-clause-unused c volume = unused_none volume.systems (new_pfs volume) (least_unused-is (numbers_in volume.systems)).0

pub returns-clause-least : goal.returns-clause-least
returns-clause-least c volume number less = used_some volume.systems number ((least_unused-is (numbers_in volume.systems)).1 number less)
