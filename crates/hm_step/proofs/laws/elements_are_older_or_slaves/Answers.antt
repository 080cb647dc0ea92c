use Rattle.hm_step.proofs.KnownLemmas.{known}
use Rattle.hm_step.proofs.laws.elements_are_older_or_slaves.Goals as goal

pub returns : goal.returns
returns c = λ es volume stand. known es volume stand
