use Rattle.std.proofs.Common.{◌∙◌, Err, Ok, Some, ap, subst, sym}
use Rattle.std.proofs.lemmas.Result.{err_from_is_err_and}
use Rattle.hm_model.specs.declared.command.Command.TheVariants.{Prune}
use Rattle.hm_calls.specs.Call.{OnCalls}
use Rattle.hm_calls.specs.Prunes.{command_of}
use Rattle.hm_calls.specs.Stop.{IfRefused}
use Rattle.hm_calls.specs.Systems.{MayRefuse}
use Rattle.hm_calls.specs.declared.pruning.Pruning.{Pruning}
use Rattle.hm_calls.proofs.PruneLemmas.{Tells, may_stop, tells_named, tells_present, tells_stopped}
use Rattle.hm_calls.proofs.prunes.record_after.Goals as goal

pub returns-in_err-record-in-Snapshots-clause-told : goal.returns-in_err-record-in-Snapshots-clause-told
returns-in_err-record-in-Snapshots-clause-told g c hash word room free few =
    let p = err_from_is_err_and c.from_residual.result c.from_residual.ensures.1 in
    subst (λ (q : Pruning). OnCalls hash c.args.id.0 (g.T.HasElements.elements c.args.store.now) (g.T.HasRoom.extents c.args.store.now)
    (Tells q word room free c.args.stand.now c.from_residual.result)) (sym c.in-Snapshots.is)
    (tells_stopped word room free c.args.stand.now hash c.args.id.0 (g.T.HasElements.elements c.args.store.now)
    (g.T.HasRoom.extents c.args.store.now) c.from_residual.result c.in_err-record-in-Snapshots.field-0.0 (p.1 ∙ ap Err p.2)
    (c.in_err-record-in-Snapshots.ensures.told hash word room free few))

pub returns-in_err-record-in-Snapshots-clause-gives : goal.returns-in_err-record-in-Snapshots-clause-gives
returns-in_err-record-in-Snapshots-clause-gives g c word =
    let p = err_from_is_err_and c.from_residual.result c.from_residual.ensures.1 in
    subst (λ (q : Pruning). IfRefused c.from_residual.result (MayRefuse (command_of q word))) (sym c.in-Snapshots.is)
    (may_stop (Prune word) c.from_residual.result c.in_err-record-in-Snapshots.field-0.0 (p.1 ∙ ap Err p.2) (c.in_err-record-in-Snapshots.ensures.gives word))

pub returns-in_ok-record-in-Snapshots-clause-told : goal.returns-in_ok-record-in-Snapshots-clause-told
returns-in_ok-record-in-Snapshots-clause-told g c hash word room free few =
    subst (λ (q : Pruning). OnCalls hash c.args.id.0 (g.T.HasElements.elements c.args.store.now) (g.T.HasRoom.extents c.args.store.now)
    (Tells q word room free c.args.stand.now (Ok (Some c.in_ok-record-in-Snapshots.record)))) (sym c.in-Snapshots.is)
    (tells_named word room free c.args.stand.now hash c.args.id.0 (g.T.HasElements.elements c.args.store.now)
    (g.T.HasRoom.extents c.args.store.now) c.in_ok-record-in-Snapshots.record (c.in_ok-record-in-Snapshots.ensures.told hash word room free few))

pub returns-in_ok-keep_present-in-Present-clause-told : goal.returns-in_ok-keep_present-in-Present-clause-told
returns-in_ok-keep_present-in-Present-clause-told g c hash word room free few =
    subst (λ (q : Pruning). OnCalls hash c.args.id.0 (g.T.HasElements.elements c.args.store.now) (g.T.HasRoom.extents c.args.store.now)
    (Tells q word room free c.args.stand.now (Ok c.in_ok-keep_present-in-Present.field-0))) (sym c.in-Present.is)
    (tells_present word room free c.args.stand.now hash c.args.id.0 (g.T.HasElements.elements c.args.store.now)
    (g.T.HasRoom.extents c.args.store.now) c.in_ok-keep_present-in-Present.field-0 (c.in_ok-keep_present-in-Present.ensures.told hash))
