use Rattle.hm_view.proofs.SizeLemmas.{size_directory, size_softlink}
use Rattle.hm_view.proofs.sizes.size.Goals as goal

pub returns-in-1-clause-ok : goal.returns-in-1-clause-ok
returns-in-1-clause-ok g c =
    size_directory (g.T.HasElements.elements c.args.store.now) (g.T.HasRoom.extents c.args.store.now) c.args.pfs.0 c.args.as_of.0 c.args.object
    c.args.inode.now (g.met.T.ElementStore.sorted c.args.store.now) c.in-1.is c.count_names.result c.count_names.ensures.ok

pub returns-in-3-clause-ok : goal.returns-in-3-clause-ok
returns-in-3-clause-ok g c =
    size_softlink (g.T.HasElements.elements c.args.store.now) (g.T.HasRoom.extents c.args.store.now) c.args.pfs.0 c.args.as_of.0 c.args.object
    c.args.inode.now (g.met.T.ElementStore.sorted c.args.store.now) c.in-3.is c.target_length.result c.target_length.ensures.ok
