use Rattle.std.proofs.Common.{sym, ◌∙◌}
use Rattle.hm_calls.proofs.CheckLemmas.{known_below, refuses_slave}
use Rattle.hm_calls.proofs.checks.check_master.Goals as goal

pub returns-then-is_slave-clause-ok : goal.returns-then-is_slave-clause-ok
returns-then-is_slave-clause-ok g c =
    refuses_slave (g.T.HasElements.elements c.args.store.now) (g.T.HasRoom.extents c.args.store.now) c.args.pfs.0 c.in_ok-record.record _
    (g.met.T.ElementStore.sorted c.args.store.now) c.in_ok-record.ensures.ok (sym c.is_slave.ensures ∙ c.if-is_slave.true)

pub returns-clause-ok : goal.returns-clause-ok
returns-clause-ok g c =
    refuses_slave (g.T.HasElements.elements c.args.store.now) (g.T.HasRoom.extents c.args.store.now) c.args.pfs.0 c.in_ok-record.record _
    (g.met.T.ElementStore.sorted c.args.store.now) c.in_ok-record.ensures.ok (sym c.is_slave.ensures ∙ c.if-is_slave.false)

pub returns-clause-below : goal.returns-clause-below
returns-clause-below g c =
    known_below (g.T.HasElements.elements c.args.store.now) (g.T.HasRoom.extents c.args.store.now) c.args.pfs.0 c.in_ok-record.record
    (g.met.T.ElementStore.sorted c.args.store.now) c.requires.balanced c.in_ok-record.ensures.ok (sym c.is_slave.ensures ∙ c.if-is_slave.false)
