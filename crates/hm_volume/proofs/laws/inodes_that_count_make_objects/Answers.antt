use Rattle.hm_volume.proofs.MadeLemmas.{made}
use Rattle.hm_volume.proofs.laws.inodes_that_count_make_objects.Goals as goal

pub returns : goal.returns
returns c = λ es t pfs number inode own has. made es t pfs number inode own has
