use Rattle.hm_flush.proofs.MadeUpLemmas.{settled-guarded}
use Rattle.hm_flush.proofs.laws.a_settled_disk_is_guarded.Goals as goal

pub returns : goal.returns
returns c = settled-guarded
