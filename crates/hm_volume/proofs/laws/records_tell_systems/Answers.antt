use Rattle.hm_volume.proofs.RecordLemmas.{system_none, system_some}
use Rattle.hm_volume.proofs.laws.records_tell_systems.Goals as goal

pub returns-clause-some : goal.returns-clause-some
returns-clause-some c = λ es volume pfs r own have has. system_some es volume pfs have r own has

pub returns-clause-none : goal.returns-clause-none
returns-clause-none c = λ es volume pfs have none. system_none es volume pfs have none
