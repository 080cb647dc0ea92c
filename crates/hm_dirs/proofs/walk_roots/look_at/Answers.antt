use Rattle.hm_dirs.proofs.WalkToldLemmas.{looked_none, looked_some}
use Rattle.hm_dirs.proofs.walk_roots.look_at.Goals as goal

pub returns-in-Some-clause-ok : goal.returns-in-Some-clause-ok
returns-in-Some-clause-ok g c = λ course.
    looked_some (g.T.HasElements.elements c.args.store.now) (g.T.HasRoom.extents c.args.store.now) course (g.met.T.ElementStore.sorted c.args.store.now)
    c.args.at c.args.as_of c.args.passed c.in-Some.inode c.in_ok-inode.field-0 c.in_ok-inode.ensures.ok c.in-Some.is

pub returns-in-None-clause-ok : goal.returns-in-None-clause-ok
returns-in-None-clause-ok g c = λ course.
    looked_none (g.T.HasElements.elements c.args.store.now) (g.T.HasRoom.extents c.args.store.now) course (g.met.T.ElementStore.sorted c.args.store.now)
    c.args.at c.args.as_of c.args.passed c.in_ok-inode.field-0 c.in_ok-inode.ensures.ok c.in-None.is
