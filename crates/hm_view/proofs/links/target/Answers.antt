use Rattle.hm_view.proofs.LinkLemmas.{target_softlink}
use Rattle.hm_view.proofs.links.target.Goals as goal

pub returns-in-3-clause-ok : goal.returns-in-3-clause-ok
returns-in-3-clause-ok g c =
    target_softlink (g.T.HasElements.elements c.args.store.now) (g.T.HasRoom.extents c.args.store.now) c.args.pfs.0 c.args.as_of.0 c.args.object
    c.args.inode.now (g.met.T.ElementStore.sorted c.args.store.now) c.in-3.is c.softlink_target.result c.softlink_target.ensures.ok
