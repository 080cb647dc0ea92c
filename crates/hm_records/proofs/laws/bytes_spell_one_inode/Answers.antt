use Rattle.hm_records.proofs.InodeLemmas.{one_inode}
use Rattle.hm_records.proofs.laws.bytes_spell_one_inode.Goals as goal

pub returns : goal.returns
returns c = one_inode
