use Rattle.std.proofs.Common.{subst}
use Rattle.std.proofs.lemmas.Result.{on_ok_weaker}
use Rattle.hm_records.specs.Inode.{IsInode}
use Rattle.hm_records.specs.declared.inode.Inode.{Inode}
use Rattle.hm_cursor.specs.Told.{fulls}
use Rattle.hm_cursor.proofs.CallLemmas.{writes_so}
use Rattle.hm_objects.specs.Objects.{AddsObject, IsOlder, pfs_link_of}
use Rattle.hm_objects.proofs.ShownLemmas.{NewInode, pfs_link_added}
use Rattle.hm_objects.proofs.add.add_pfs_link.Goals as goal

pub returns-clause-ok : goal.returns-clause-ok
returns-clause-ok g c =
    on_ok_weaker c.add_inode.result
    (writes_so g.T.HasElements.elements g.T.HasRoom.extents
    (NewInode c.args.pfs.0 c.args.number.0 c.args.id.0 c.new_link.result) (AddsObject c.args.pfs.0 c.args.id.0 (pfs_link_of c.args.number c.args.to))
    (λ lists. IsOlder c.args.pfs.0 c.args.number.0 c.args.id.0 (fulls lists)) c.args.store.now c.add_inode.new.store c.requires.older
    (λ was es' older new. pfs_link_added c.args.pfs.0 c.args.id.0 c.args.number c.args.to (fulls was) es'
    (subst IsInode c.new_link.ensures.is c.new_link.ensures.ranges)
    (subst (λ (inode : Inode). NewInode c.args.pfs.0 c.args.number.0 c.args.id.0 inode (fulls was) es') c.new_link.ensures.is new)))
    c.add_inode.ensures.ok
