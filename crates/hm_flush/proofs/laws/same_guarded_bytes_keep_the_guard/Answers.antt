use Rattle.hm_flush.proofs.SameGuardLemmas.{guards-same}
use Rattle.hm_flush.proofs.laws.same_guarded_bytes_keep_the_guard.Goals as goal

pub returns : goal.returns
returns c = λ f s after old new flush same guards. guards-same f s after old new flush same guards
