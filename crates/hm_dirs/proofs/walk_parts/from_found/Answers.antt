use Rattle.std.proofs.Common.{sym}
use Rattle.hm_dirs.proofs.WalkToldLemmas.{gone_none, gone_over}
use Rattle.hm_dirs.proofs.walk_parts.from_found.Goals as goal

pub returns-in-Some-clause-ok : goal.returns-in-Some-clause-ok
returns-in-Some-clause-ok g c =
    gone_over (g.T.HasElements.elements c.args.store.now) (g.T.HasRoom.extents c.args.store.now) c.args.course (g.met.T.ElementStore.sorted c.args.store.now)
    c.args.follow c.args.stand c.in-Some.pfs c.over_link.result (sym c.in-Some.ensures) c.over_link.ensures.ok

pub returns-in-None-clause-ok : goal.returns-in-None-clause-ok
returns-in-None-clause-ok g c =
    gone_none (g.T.HasElements.elements c.args.store.now) (g.T.HasRoom.extents c.args.store.now) c.args.course (g.met.T.ElementStore.sorted c.args.store.now)
    c.args.follow c.args.stand (sym c.in-None.ensures)
