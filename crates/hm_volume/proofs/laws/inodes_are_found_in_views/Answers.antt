use Rattle.hm_volume.proofs.MadeLemmas.{found, not_found}
use Rattle.hm_volume.proofs.laws.inodes_are_found_in_views.Goals as goal

pub returns-clause-some : goal.returns-clause-some
returns-clause-some c = λ es t pfs tree number inode own view has. found es t pfs tree number own view inode has

pub returns-clause-none : goal.returns-clause-none
returns-clause-none c = λ es t pfs tree number own view none. not_found es t pfs tree number own view none
