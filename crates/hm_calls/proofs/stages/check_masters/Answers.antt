use Rattle.std.proofs.Common.{◌≡◌, ℕ, None, Ok, subst}
use Rattle.std.proofs.lemmas.Result.{err_from_is_err_and, on_ok_weaker}
use Rattle.hm_calls.specs.Known.{AreBelowIn}
use Rattle.hm_calls.specs.Scenes.{slave_check}
use Rattle.hm_calls.proofs.ReachLemmas.{OnVolumes, below_back, first_slave, second_slave}
use Rattle.hm_calls.proofs.StageLemmas.{told_then}
use Rattle.hm_calls.proofs.stages.check_masters.Goals as goal

pub returns-in_err-check_master-clause-ok : goal.returns-in_err-check_master-clause-ok
returns-in_err-check_master-clause-ok g c hash course =
    let p = err_from_is_err_and c.from_residual.result c.from_residual.ensures.1 in
    rw (p.1, p.2) (first_slave hash course _ _ c.args.one.0 c.args.two.0 _ c.in_err-check_master.ensures.ok)

pub returns-then-one-two-clause-ok : goal.returns-then-one-two-clause-ok
returns-then-one-two-clause-ok g c hash course =
    second_slave hash course c.in_ok-check_master.ensures.keeps c.args.one.0 c.args.two.0 (Ok tt) c.in_ok-check_master.ensures.ok
    (told_then _ _ _ _ c.in_ok-check_master.ensures.keeps.elements c.in_ok-check_master.ensures.keeps.extents
    (λ es xs. OnVolumes es xs (λ volume. slave_check volume c.args.two.0 ≡ None))
    (subst (λ (n : ℕ). OnVolumes (g.T.HasElements.elements c.args.store.now) (g.T.HasRoom.extents c.args.store.now) (λ volume. slave_check volume n ≡ None))
    c.if-one-two.true c.in_ok-check_master.ensures.ok))

pub returns-then-one-two-clause-below : goal.returns-then-one-two-clause-below
returns-then-one-two-clause-below g c id known =
    subst (λ (n : ℕ). AreBelowIn (g.T.HasElements.elements c.args.store.now) (g.T.HasRoom.extents c.args.store.now) n id) c.if-one-two.true
    (c.in_ok-check_master.ensures.below id known)

pub returns-clause-ok : goal.returns-clause-ok
returns-clause-ok g c hash course =
    second_slave hash course c.in_ok-check_master.ensures.keeps c.args.one.0 c.args.two.0 _ c.in_ok-check_master.ensures.ok c.check_master-2.ensures.ok

pub returns-clause-below : goal.returns-clause-below
returns-clause-below g c =
    on_ok_weaker c.check_master-2.result (below_back c.in_ok-check_master.ensures.keeps c.args.two.0) c.check_master-2.ensures.below
