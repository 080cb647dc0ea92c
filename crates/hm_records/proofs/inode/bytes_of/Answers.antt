use Rattle.std.proofs.Common.{refl}
use Rattle.hm_records.specs.Inode.{inode_bytes}
use Rattle.hm_records.proofs.inode.bytes_of.Goals as goal

pub returns : goal.returns
unfolding inode_bytes
returns c = rw (c.write_u16.ensures, c.write_u32.ensures, c.write_u64.ensures) refl
