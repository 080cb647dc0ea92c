use Rattle.std.proofs.Common.{sym, ◌∙◌}
use Rattle.std.proofs.lemmas.Bool.{false≢true}
use Rattle.hm_dirs.specs.Walk.{OnShown}
use Rattle.hm_dirs.proofs.WalkToldLemmas.{ById, if_all, seen_no_pfs, seen_then, seen_unkept, unseen}
use Rattle.hm_dirs.proofs.walk_parts.by_id.Goals as goal

pub returns-in_default-clause-ok : goal.returns-in_default-clause-ok
returns-in_default-clause-ok g c = λ course.
    unseen (g.T.HasElements.elements c.args.store.now) (g.T.HasRoom.extents c.args.store.now) course (g.met.T.ElementStore.sorted c.args.store.now)
    c.args.as_of c.args.stand c.in_default.is

pub returns-in_default-2-clause-ok : goal.returns-in_default-2-clause-ok
returns-in_default-2-clause-ok g c = λ course.
    seen_no_pfs (g.T.HasElements.elements c.args.store.now) (g.T.HasRoom.extents c.args.store.now) course (g.met.T.ElementStore.sorted c.args.store.now)
    c.args.as_of c.in-Some.id c.args.stand c.in_ok-record.field-0 c.in-Some.is c.in_ok-record.ensures.ok c.in_default-2.is

pub returns-then-not-keeps-clause-ok : goal.returns-then-not-keeps-clause-ok
returns-then-not-keeps-clause-ok g c = λ course.
    seen_unkept (g.T.HasElements.elements c.args.store.now) (g.T.HasRoom.extents c.args.store.now) course (g.met.T.ElementStore.sorted c.args.store.now)
    c.args.as_of c.in-Some.id c.args.stand c.in_ok-record.field-0 c.in-Some-2.record c.in-Some.is c.in_ok-record.ensures.ok c.in-Some-2.is
    (λ held. false≢true (sym c.if-not-keeps.true ∙ c.keeps.ensures.1 held))

pub returns-clause-ok : goal.returns-clause-ok
returns-clause-ok g c =
    if_all (λ course walked. OnShown (g.T.HasElements.elements c.args.store.now) (g.T.HasRoom.extents c.args.store.now) course
    (ById c.args.as_of c.args.stand walked))
    c.look_at.result
    (λ course. seen_then (g.T.HasElements.elements c.args.store.now) (g.T.HasRoom.extents c.args.store.now) course
    (g.met.T.ElementStore.sorted c.args.store.now)
    c.args.as_of c.in-Some.id c.args.stand c.in_ok-record.field-0 c.in-Some-2.record
    (g.T.HasElements.elements c.find_record.new.store) (g.T.HasRoom.extents c.find_record.new.store) c.look_at.result
    c.in_ok-record.ensures.keeps.elements c.in_ok-record.ensures.keeps.extents c.in-Some.is c.in_ok-record.ensures.ok c.in-Some-2.is
    (c.keeps.ensures.0 c.if-not-keeps.false) c.look_at.ensures.ok)
