use Rattle.hm_dirs.proofs.WalkToldLemmas.{led_follows, led_stays, led_takes}
use Rattle.hm_dirs.proofs.walk_parts.over_link.Goals as goal

pub returns-in-Stays-clause-ok : goal.returns-in-Stays-clause-ok
returns-in-Stays-clause-ok g c =
    led_stays (g.T.HasElements.elements c.args.store.now) (g.T.HasRoom.extents c.args.store.now) c.args.course (g.met.T.ElementStore.sorted c.args.store.now)
    c.args.follow c.args.pfs c.args.stand c.in-Stays.is

pub returns-in-Follows-clause-ok : goal.returns-in-Follows-clause-ok
returns-in-Follows-clause-ok g c =
    led_follows (g.T.HasElements.elements c.args.store.now) (g.T.HasRoom.extents c.args.store.now) c.args.course (g.met.T.ElementStore.sorted c.args.store.now)
    c.args.follow c.args.pfs c.args.stand c.enter.result c.in-Follows.is c.enter.ensures.ok

pub returns-in-TakesPfs-clause-ok : goal.returns-in-TakesPfs-clause-ok
returns-in-TakesPfs-clause-ok g c =
    led_takes (g.T.HasElements.elements c.args.store.now) (g.T.HasRoom.extents c.args.store.now) c.args.course (g.met.T.ElementStore.sorted c.args.store.now)
    c.args.follow c.args.pfs c.args.stand c.take_pfs.result c.in-TakesPfs.is c.take_pfs.ensures.ok
