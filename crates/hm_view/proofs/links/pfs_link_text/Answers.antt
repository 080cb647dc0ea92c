use Rattle.hm_view.proofs.LinkLemmas.{link_told}
use Rattle.hm_view.proofs.links.pfs_link_text.Goals as goal

pub returns-clause-ok : goal.returns-clause-ok
returns-clause-ok g c =
    link_told (g.T.HasElements.elements c.args.store.now) (g.T.HasRoom.extents c.args.store.now) c.args.pfs.0 c.in_ok-found.found
    c.in_ok-text_by.field-0 (g.met.T.ElementStore.sorted c.args.store.now) c.in_ok-text_by.ensures c.in_ok-found.ensures.ok
