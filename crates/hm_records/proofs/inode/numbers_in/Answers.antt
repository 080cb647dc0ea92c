use Rattle.std.proofs.Common.{ap, ◌∙◌}
use Rattle.hm_records.proofs.InodeLemmas.{inode_in, inode_back}
use Rattle.hm_records.proofs.inode.numbers_in.Goals as goal

pub returns : goal.returns
returns c = λ inode is same. rw (c.read_u64.ensures, c.read_u32.ensures, c.read_u16.ensures) (ap inode_in same ∙ inode_back inode is)
