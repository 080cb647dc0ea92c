use Rattle.hm_disk.proofs.CrashLemmas.{MayLeave-torn, MayLeave-written}
use Rattle.hm_disk.proofs.laws.a_write_only_adds.Goals as goal

pub returns-clause-ok : goal.returns-clause-ok
returns-clause-ok c old new place bytes within written = MayLeave-written old new place bytes within written

pub returns-clause-err : goal.returns-clause-err
returns-clause-err c old new place count torn = MayLeave-torn old new place count torn
