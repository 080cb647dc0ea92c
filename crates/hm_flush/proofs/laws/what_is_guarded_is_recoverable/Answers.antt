use Rattle.hm_flush.proofs.GuardLemmas.{guarded-recovers}
use Rattle.hm_flush.proofs.laws.what_is_guarded_is_recoverable.Goals as goal

pub returns : goal.returns
returns c = λ f s t sound guards. guarded-recovers f s t sound.bigblocks guards
