use Rattle.std.proofs.Common.{refl}
use Rattle.hm_model.proofs.laws.links.slaves_show_their_sync_end.Goals as goal

pub returns-clause-master : goal.returns-clause-master
returns-clause-master c volume pfs s found role = rw (found, role) refl

pub returns-clause-slave : goal.returns-clause-slave
returns-clause-slave c volume pfs s found role = rw (found, role) refl
