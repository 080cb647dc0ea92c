use Rattle.std.proofs.Common.{refl}
use Rattle.hm_dirs.proofs.WalkToldLemmas.{taken_none, taken_some}
use Rattle.hm_dirs.proofs.walk_roots.take_pfs.Goals as goal

pub returns-in_default-clause-ok : goal.returns-in_default-clause-ok
returns-in_default-clause-ok g c =
    taken_none (g.T.HasElements.elements c.args.store.now) (g.T.HasRoom.extents c.args.store.now) c.args.course (g.met.T.ElementStore.sorted c.args.store.now)
    c.args.pfs c.args.when c.args.passed c.in_ok-record.field-0 c.in_ok-record.ensures.ok c.in_default.is

pub returns-clause-ok : goal.returns-clause-ok
returns-clause-ok g c =
    taken_some (g.T.HasElements.elements c.args.store.now) (g.T.HasRoom.extents c.args.store.now) c.args.course (g.met.T.ElementStore.sorted c.args.store.now)
    c.args.pfs c.args.when c.args.passed c.in_ok-record.field-0 c.in-Some.record c.shown_as_of.result _ c.in_ok-record.ensures.ok c.in-Some.is
    c.root_of.ensures refl c.unwrap_or.ensures c.shown_as_of.ensures refl
