use Rattle.std.proofs.Common.{refl}
use Rattle.hm_records.specs.Inode.{inode_bytes}
use Rattle.hm_records.specs.PfsRecord.{head_bytes, interval_bytes, pfs_bytes}
use Rattle.hm_newfs.proofs.tree.fresh_payloads.Goals as goal

pub returns : goal.returns
unfolding inode_bytes pfs_bytes head_bytes interval_bytes
returns c = rw (c.write_u64-2.ensures, c.write_u64.ensures, c.write_u32-2.ensures, c.write_u32.ensures) refl
