use Rattle.hm_recover.proofs.BoundaryLemmas.{boundary-kept}
use Rattle.hm_recover.proofs.laws.recovery_keeps_the_boundary.Goals as goal

pub returns : goal.returns
returns c = boundary-kept
