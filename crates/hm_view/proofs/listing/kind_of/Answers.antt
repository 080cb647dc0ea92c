use Rattle.hm_view.proofs.ListingLemmas.{kind_none, kind_some}
use Rattle.hm_view.proofs.listing.kind_of.Goals as goal

pub returns-in-Some-clause-ok : goal.returns-in-Some-clause-ok
returns-in-Some-clause-ok g c =
    kind_some (g.T.HasElements.elements c.args.store.now) (g.T.HasRoom.extents c.args.store.now) c.args.pfs.0 c.args.as_of.0 c.args.object
    (g.met.T.ElementStore.sorted c.args.store.now) c.in_ok-inode.field-0 c.in-Some.inode c.in-Some.is c.in_ok-inode.ensures.ok

pub returns-in-None-clause-ok : goal.returns-in-None-clause-ok
returns-in-None-clause-ok g c =
    kind_none (g.T.HasElements.elements c.args.store.now) (g.T.HasRoom.extents c.args.store.now) c.args.pfs.0 c.args.as_of.0 c.args.object
    (g.met.T.ElementStore.sorted c.args.store.now) c.in_ok-inode.field-0 c.in-None.is c.in_ok-inode.ensures.ok
