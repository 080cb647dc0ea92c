use Rattle.std.proofs.Common.{◌-◌, arith}
use Rattle.hm_view.proofs.PassLemmas.{goes_none, goes_on, goes_over}
use Rattle.hm_view.proofs.pass.name_before.Goals as goal

pub returns-then-end-eq0-clause-ok : goal.returns-then-end-eq0-clause-ok
returns-then-end-eq0-clause-ok g c =
    goes_over (g.T.HasElements.elements c.args.store.now) (g.T.HasRoom.extents c.args.store.now) c.args.pfs.0 c.args.as_of.0 c.args.directory c.args.end 0
    (g.met.T.ElementStore.sorted c.args.store.now) c.if-end-eq0.true

pub returns-in-None-clause-ok : goal.returns-in-None-clause-ok
returns-in-None-clause-ok g c =
    goes_none (g.T.HasElements.elements c.args.store.now) (g.T.HasRoom.extents c.args.store.now) c.args.pfs.0 c.args.as_of.0 c.args.directory c.args.end
    (c.args.end - 1) (g.met.T.ElementStore.sorted c.args.store.now) c.in_ok-key.field-0 (omega (arith, c.if-end-eq0.false)) c.in-None.is c.in_ok-key.ensures.ok

pub returns-in-Some-clause-ok : goal.returns-in-Some-clause-ok
returns-in-Some-clause-ok g c =
    goes_on (g.T.HasElements.elements c.args.store.now) (g.T.HasRoom.extents c.args.store.now) c.args.pfs.0 c.args.as_of.0 c.args.directory c.args.end
    (c.args.end - 1) (g.met.T.ElementStore.sorted c.args.store.now) c.in_ok-key.field-0 c.in-Some.key c.min.result c.in-Some.entry
    (omega (arith, c.if-end-eq0.false)) (λ to. omega (arith, to, c.min.ensures)) c.in-Some.is c.in_ok-key.ensures.ok
