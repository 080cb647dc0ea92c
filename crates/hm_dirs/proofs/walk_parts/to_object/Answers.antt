use Rattle.hm_dirs.proofs.WalkToldLemmas.{object_found, object_lost}
use Rattle.hm_dirs.proofs.walk_parts.to_object.Goals as goal

pub returns-in-Ok-clause-ok : goal.returns-in-Ok-clause-ok
returns-in-Ok-clause-ok g c =
    object_found (g.T.HasElements.elements c.args.store.now) (g.T.HasRoom.extents c.args.store.now) c.args.course (g.met.T.ElementStore.sorted c.args.store.now)
    c.args.follow c.args.object c.args.stand c.in-Ok.found c.passes.result c.in_ok-found.field-0
    (g.T.HasElements.elements c.look_at.new.store) (g.T.HasRoom.extents c.look_at.new.store) c.from_found.result
    c.in_ok-found.ensures.keeps.elements c.in_ok-found.ensures.keeps.extents c.passes.ensures c.in_ok-found.ensures.ok c.in-Ok.is c.from_found.ensures.ok

pub returns-in-Err-clause-ok : goal.returns-in-Err-clause-ok
returns-in-Err-clause-ok g c =
    object_lost (g.T.HasElements.elements c.args.store.now) (g.T.HasRoom.extents c.args.store.now) c.args.course (g.met.T.ElementStore.sorted c.args.store.now)
    c.args.follow c.args.object c.args.stand c.passes.result c.in-Err.lost c.in_ok-found.field-0 c.passes.ensures c.in_ok-found.ensures.ok c.in-Err.is
