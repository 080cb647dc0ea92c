use Rattle.hm_dirs.proofs.WalkToldLemmas.{name_none, name_some}
use Rattle.hm_dirs.proofs.walk_parts.to_name.Goals as goal

pub returns-in-Some-clause-ok : goal.returns-in-Some-clause-ok
returns-in-Some-clause-ok g c =
    name_some (g.T.HasElements.elements c.args.store.now) (g.T.HasRoom.extents c.args.store.now) c.args.course (g.met.T.ElementStore.sorted c.args.store.now)
    (g.H.NameHash.hash_of c.args.hash.now) c.args.follow c.args.name.now c.args.stand _ c.in-Some.object c.in_ok-object.field-0
    (g.T.HasElements.elements c.look_up.new.store) (g.T.HasRoom.extents c.look_up.new.store) c.to_object.result
    c.in_ok-object.ensures.keeps.elements c.in_ok-object.ensures.keeps.extents c.in_ok-object.ensures.ok c.in-Some.is c.to_object.ensures.ok

pub returns-in-None-clause-ok : goal.returns-in-None-clause-ok
returns-in-None-clause-ok g c =
    name_none (g.T.HasElements.elements c.args.store.now) (g.T.HasRoom.extents c.args.store.now) c.args.course (g.met.T.ElementStore.sorted c.args.store.now)
    (g.H.NameHash.hash_of c.args.hash.now) c.args.follow c.args.name.now c.args.stand c.in_ok-object.field-0 c.in_ok-object.ensures.ok c.in-None.is
