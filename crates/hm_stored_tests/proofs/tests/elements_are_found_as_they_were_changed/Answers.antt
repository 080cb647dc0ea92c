-- The disk of a file tells nothing.
use Rattle.hm_stored.proofs.UntoldLemmas.{untold_elements}
use Rattle.hm_stored_tests.proofs.tests.elements_are_found_as_they_were_changed.Goals as goal

pub readdress-requires : goal.readdress-requires
readdress-requires g c = record { there = untold_elements _ _ _ _ }

pub set_delete-requires-clause-there : goal.set_delete-requires-clause-there
set_delete-requires-clause-there g c = untold_elements _ _ _ _

pub remove-requires : goal.remove-requires
remove-requires g c = record { there = untold_elements _ _ _ _ }

pub remove-requires-2 : goal.remove-requires-2
remove-requires-2 g c = record { there = untold_elements _ _ _ _ }
