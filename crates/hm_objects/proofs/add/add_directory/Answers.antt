use Rattle.std.proofs.Common.{subst}
use Rattle.std.proofs.lemmas.Result.{on_ok_weaker}
use Rattle.hm_types.specs.Tree.{directory_of}
use Rattle.hm_records.specs.declared.inode.Inode.{Inode}
use Rattle.hm_cursor.specs.Told.{fulls}
use Rattle.hm_cursor.proofs.CallLemmas.{writes_so}
use Rattle.hm_objects.specs.Objects.{AddsObject, IsOlder}
use Rattle.hm_objects.proofs.ShownLemmas.{NewInode, directory_added}
use Rattle.hm_objects.proofs.add.add_directory.Goals as goal

pub returns-clause-ok : goal.returns-clause-ok
returns-clause-ok g c =
    on_ok_weaker c.add_inode.result
    (writes_so g.T.HasElements.elements g.T.HasRoom.extents
    (NewInode c.args.pfs.0 c.args.number.0 c.args.id.0 c.new_inode.result) (AddsObject c.args.pfs.0 c.args.id.0 (directory_of c.args.number))
    (λ lists. IsOlder c.args.pfs.0 c.args.number.0 c.args.id.0 (fulls lists)) c.args.store.now c.add_inode.new.store c.requires.older
    (λ was es' older new. directory_added c.args.pfs.0 c.args.id.0 c.args.number (fulls was) es'
    (subst (λ (inode : Inode). NewInode c.args.pfs.0 c.args.number.0 c.args.id.0 inode (fulls was) es') c.new_inode.ensures new)))
    c.add_inode.ensures.ok
