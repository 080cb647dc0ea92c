use Rattle.hm_core.proofs.FitLemmas.{held_fit}
use Rattle.hm_core.proofs.laws.ids_of_held_elements_fit.Goals as goal

pub returns : goal.returns
returns c = λ h root es pages holds. held_fit h root pages es holds
