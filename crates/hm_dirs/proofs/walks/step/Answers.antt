use Rattle.hm_dirs.proofs.WalkPartsLemmas.{step_lost, step_on}
use Rattle.hm_dirs.proofs.walks.step.Goals as goal

pub returns-in-Ok-clause-ok : goal.returns-in-Ok-clause-ok
returns-in-Ok-clause-ok g c =
    step_on (g.T.HasElements.elements c.args.store.now) (g.T.HasRoom.extents c.args.store.now) c.args.course (g.met.T.ElementStore.sorted c.args.store.now)
    (g.H.NameHash.hash_of c.args.hash.now) c.args.follow c.args.part.now c.args.stand c.in-Ok.seen c.in_ok-seen.field-0
    (g.T.HasElements.elements c.by_id.new.store) (g.T.HasRoom.extents c.by_id.new.store) c.by_name.result
    c.in_ok-seen.ensures.keeps.elements c.in_ok-seen.ensures.keeps.extents c.in_ok-seen.ensures.ok c.in-Ok.is c.by_name.ensures.ok

pub returns-in-Err-clause-ok : goal.returns-in-Err-clause-ok
returns-in-Err-clause-ok g c =
    step_lost (g.T.HasElements.elements c.args.store.now) (g.T.HasRoom.extents c.args.store.now) c.args.course (g.met.T.ElementStore.sorted c.args.store.now)
    (g.H.NameHash.hash_of c.args.hash.now) c.args.follow c.args.part.now c.args.stand c.in-Err.lost c.in_ok-seen.field-0 c.in_ok-seen.ensures.ok c.in-Err.is
