use Rattle.std.proofs.Common.{subst, sym}
use Rattle.hm_records.specs.Inode.{IsInode}
use Rattle.hm_records.specs.declared.inode.Inode.{Inode}
use Rattle.hm_objects.proofs.ShownLemmas.{link_inode}
use Rattle.hm_objects.proofs.add.new_link.Goals as goal

pub returns-clause-ranges : goal.returns-clause-ranges
returns-clause-ranges c =
    subst (λ (inode : Inode). IsInode (record inode { pfs = record { 0 = c.args.to } })) (sym c.new_inode.ensures)
    (link_inode (record { 0 = c.args.to }) c.ranges.to.fits)
