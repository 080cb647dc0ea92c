use Rattle.hm_step.proofs.KnownLemmas.{none_broken}
use Rattle.hm_step.proofs.laws.sound_payloads_are_not_broken.Goals as goal

pub returns : goal.returns
returns c = λ lists at all is. none_broken lists at all is
