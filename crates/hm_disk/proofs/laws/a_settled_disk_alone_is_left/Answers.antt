use Rattle.hm_disk.proofs.CrashLemmas.{MayLeave-settled}
use Rattle.hm_disk.proofs.laws.a_settled_disk_alone_is_left.Goals as goal

pub returns : goal.returns
returns c = MayLeave-settled
