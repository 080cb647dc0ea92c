use Rattle.std.proofs.Common.{sym, ◌∙◌}
use Rattle.hm_calls.proofs.CheckLemmas.{refuses_names}
use Rattle.hm_calls.proofs.checks.check_empty.Goals as goal

pub returns-then-is_some-clause-ok : goal.returns-then-is_some-clause-ok
returns-then-is_some-clause-ok g c =
    refuses_names (g.T.HasElements.elements c.args.store.now) (g.T.HasRoom.extents c.args.store.now) c.args.directory.now.as_of.0
    c.args.directory.now.at.pfs.0 c.args.directory.now.at.object c.in_ok-name.name _ c.in_ok-name.ensures.ok
    (sym c.is_some.ensures ∙ c.if-is_some.true)

pub returns-clause-ok : goal.returns-clause-ok
returns-clause-ok g c =
    refuses_names (g.T.HasElements.elements c.args.store.now) (g.T.HasRoom.extents c.args.store.now) c.args.directory.now.as_of.0
    c.args.directory.now.at.pfs.0 c.args.directory.now.at.object c.in_ok-name.name _ c.in_ok-name.ensures.ok
    (sym c.is_some.ensures ∙ c.if-is_some.false)
