use Rattle.hm_dirs.proofs.WalkToldLemmas.{entered, entered_none, entered_unseen}
use Rattle.hm_dirs.proofs.walk_roots.enter.Goals as goal

pub returns-in_default-clause-ok : goal.returns-in_default-clause-ok
returns-in_default-clause-ok g c =
    entered_none (g.T.HasElements.elements c.args.store.now) (g.T.HasRoom.extents c.args.store.now) c.args.course (g.met.T.ElementStore.sorted c.args.store.now)
    c.args.pfs c.args.when c.args.passed c.in_ok-record.field-0 c.in_ok-record.ensures.ok c.in_default.is

pub returns-in_default-seen_as_of-clause-ok : goal.returns-in_default-seen_as_of-clause-ok
returns-in_default-seen_as_of-clause-ok g c =
    entered_unseen (g.T.HasElements.elements c.args.store.now) (g.T.HasRoom.extents c.args.store.now) c.args.course
    (g.met.T.ElementStore.sorted c.args.store.now)
    c.args.pfs c.args.when c.args.passed c.in_ok-record.field-0 c.in-Some.record c.in_ok-record.ensures.ok c.in-Some.is c.in_default-seen_as_of.ensures

pub returns-clause-ok : goal.returns-clause-ok
returns-clause-ok g c =
    entered (g.T.HasElements.elements c.args.store.now) (g.T.HasRoom.extents c.args.store.now) c.args.course (g.met.T.ElementStore.sorted c.args.store.now)
    c.args.pfs c.args.when c.args.passed c.passes.result c.in_ok-record.field-0 c.in-Some.record c.in-Some-seen_as_of.as_of c.root_of-at.result
    (g.T.HasElements.elements c.find_record.new.store) (g.T.HasRoom.extents c.find_record.new.store) c.look_at.result
    c.in_ok-record.ensures.keeps.elements c.in_ok-record.ensures.keeps.extents c.in_ok-record.ensures.ok c.in-Some.is c.in-Some-seen_as_of.ensures
    c.root_of-at.ensures c.passes.ensures c.look_at.ensures.ok
