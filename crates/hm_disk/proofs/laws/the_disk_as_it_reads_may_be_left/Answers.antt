use Rattle.hm_disk.proofs.CrashLemmas.{MayLeave-same}
use Rattle.hm_disk.proofs.laws.the_disk_as_it_reads_may_be_left.Goals as goal

pub returns : goal.returns
returns c = MayLeave-same
