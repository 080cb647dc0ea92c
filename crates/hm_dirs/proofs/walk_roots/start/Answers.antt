use Rattle.hm_dirs.proofs.WalkToldLemmas.{started}
use Rattle.hm_dirs.proofs.walk_roots.start.Goals as goal

pub returns-clause-ok : goal.returns-clause-ok
returns-clause-ok g c =
    started (g.T.HasElements.elements c.args.store.now) (g.T.HasRoom.extents c.args.store.now) c.args.course (g.met.T.ElementStore.sorted c.args.store.now)
    c.in_ok-first.first c.first_as_of-as_of.result c.root_of-at.result c.in_ok-inode.inode c.passes.result
    (g.T.HasElements.elements c.find_record.new.store) (g.T.HasRoom.extents c.find_record.new.store)
    c.in_ok-first.ensures.keeps.elements c.in_ok-first.ensures.keeps.extents c.in_ok-first.ensures.ok c.first_as_of-as_of.ensures c.root_of-at.ensures
    c.in_ok-inode.ensures.ok c.passes.ensures
