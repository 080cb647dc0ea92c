use Rattle.std.proofs.Common.{◌≡◌, ◌∙◌, Err, ap, subst, arith}
use Rattle.std.specs.Prelude.{Option}
use Rattle.std.proofs.lemmas.Bool.Decides.{nat_tests}
use Rattle.std.proofs.lemmas.Result.{err_from_is_err_and}
use Rattle.hm_model.specs.declared.command.Command.TheVariants.{Prune}
use Rattle.hm_model.specs.declared.reply.Reply.TheVariants.{NotDir}
use Rattle.hm_cursor.specs.Told.{IsRecordNow, OnBalanced}
use Rattle.hm_records.specs.declared.pfs_record.PfsRecord.{PfsRecord}
use Rattle.hm_calls.specs.Systems.{MayRefuse}
use Rattle.hm_calls.proofs.PruneLemmas.{may_be_many, may_be_no_directory, may_be_unnamed, may_stop, names_empty, names_gone, names_left, names_many}
use Rattle.hm_calls.proofs.PruneLemmas.{names_stopped, refusal_each}
use Rattle.hm_calls.proofs.prunes.name_kept.Goals as goal

pub returns-in_err-check_directory-clause-told : goal.returns-in_err-check_directory-clause-told
returns-in_err-check_directory-clause-told g c hash word room free few =
    let p = err_from_is_err_and c.from_residual.result c.from_residual.ensures.1 in
    names_stopped word room free c.args.directory.now hash c.args.id.0 (g.T.HasElements.elements c.args.store.now)
    (g.T.HasRoom.extents c.args.store.now) c.from_residual.result c.in_err-check_directory.field-0.0 (p.1 ∙ ap Err p.2)
    c.in_err-check_directory.ensures.check

pub returns-in_err-check_directory-clause-gives : goal.returns-in_err-check_directory-clause-gives
returns-in_err-check_directory-clause-gives g c word =
    let p = err_from_is_err_and c.from_residual.result c.from_residual.ensures.1 in
    may_stop (Prune word) c.from_residual.result c.in_err-check_directory.field-0.0 (p.1 ∙ ap Err p.2)
    (refusal_each (λ reply. reply ≡ NotDir) (MayRefuse (Prune word)) c.in_err-check_directory.field-0.0 (may_be_no_directory word)
    c.in_err-check_directory.ensures.gives)

pub returns-in_default-clause-told : goal.returns-in_default-clause-told
returns-in_default-clause-told g c hash word room free few =
    names_gone word room free c.args.directory.now hash c.args.id.0 (g.T.HasElements.elements c.args.store.now)
    (g.T.HasRoom.extents c.args.store.now) (g.met.T.ElementStore.sorted c.args.store.now) c.in_ok-check_directory.ensures.check
    (subst (λ (o : Option PfsRecord). OnBalanced (g.T.HasElements.elements c.args.store.now) (g.T.HasRoom.extents c.args.store.now)
    (λ lists. IsRecordNow lists c.args.directory.now.at.pfs.0 o)) c.in_default.is c.in_ok-record.ensures.ok)

pub returns-then-is_empty-clause-told : goal.returns-then-is_empty-clause-told
returns-then-is_empty-clause-told g c hash word room free few =
    names_empty word room free c.args.directory.now hash c.args.id.0 (g.T.HasElements.elements c.args.store.now)
    (g.T.HasRoom.extents c.args.store.now) (g.T.HasElements.elements c.find_record.new.store) (g.T.HasRoom.extents c.find_record.new.store) few
    (g.met.T.ElementStore.sorted c.args.store.now) c.in_ok-check_directory.ensures.check c.in-Some.record c.in_ok-ids.ids.items c.shown_of-shown.result.0
    c.shown_of-shown.ensures
    (subst (λ (o : Option PfsRecord). OnBalanced (g.T.HasElements.elements c.args.store.now) (g.T.HasRoom.extents c.args.store.now)
    (λ lists. IsRecordNow lists c.args.directory.now.at.pfs.0 o)) c.in-Some.is c.in_ok-record.ensures.ok)
    c.in_ok-ids.ensures.ok c.in_ok-record.ensures.keeps.elements c.in_ok-record.ensures.keeps.extents
    (let told = c.is_empty.ensures in let is = c.if-is_empty.true in grind (arith, nat_tests, told, is))

pub returns-then-is_empty-clause-gives : goal.returns-then-is_empty-clause-gives
returns-then-is_empty-clause-gives g c word = may_be_unnamed word

pub returns-in_err-retention-clause-told : goal.returns-in_err-retention-clause-told
returns-in_err-retention-clause-told g c hash word room free few =
    let p = err_from_is_err_and c.from_residual-in_err-retention.result c.from_residual-in_err-retention.ensures.1 in
    names_many word room free c.args.directory.now hash c.args.id.0 (g.T.HasElements.elements c.args.store.now)
    (g.T.HasRoom.extents c.args.store.now) (g.T.HasElements.elements c.find_record.new.store) (g.T.HasRoom.extents c.find_record.new.store) few
    (g.met.T.ElementStore.sorted c.args.store.now) c.in_ok-check_directory.ensures.check c.in-Some.record c.in_ok-ids.ids.items c.shown_of-shown.result.0
    c.shown_of-shown.ensures
    (subst (λ (o : Option PfsRecord). OnBalanced (g.T.HasElements.elements c.args.store.now) (g.T.HasRoom.extents c.args.store.now)
    (λ lists. IsRecordNow lists c.args.directory.now.at.pfs.0 o)) c.in-Some.is c.in_ok-record.ensures.ok)
    c.in_ok-ids.ensures.ok c.in_ok-record.ensures.keeps.elements c.in_ok-record.ensures.keeps.extents
    c.from_residual-in_err-retention.result c.in_err-retention.field-0.0 (p.1 ∙ ap Err p.2)
    (let told = c.is_empty.ensures in let is = c.if-is_empty.false in grind (arith, nat_tests, told, is))
    (rw c.deref.ensures.value at c.in_err-retention.ensures.many)

pub returns-in_err-retention-clause-gives : goal.returns-in_err-retention-clause-gives
returns-in_err-retention-clause-gives g c word =
    let p = err_from_is_err_and c.from_residual-in_err-retention.result c.from_residual-in_err-retention.ensures.1 in
    may_stop (Prune word) c.from_residual-in_err-retention.result c.in_err-retention.field-0.0 (p.1 ∙ ap Err p.2)
    (refusal_each _ (MayRefuse (Prune word)) c.in_err-retention.field-0.0 (λ reply many. may_be_many word reply many.0 many.1)
    c.in_err-retention.ensures.many)

pub returns-clause-told : goal.returns-clause-told
returns-clause-told g c hash word room free few =
    names_left word room free c.args.directory.now hash c.args.id.0 (g.T.HasElements.elements c.args.store.now)
    (g.T.HasRoom.extents c.args.store.now) (g.T.HasElements.elements c.find_record.new.store) (g.T.HasRoom.extents c.find_record.new.store) few
    (g.met.T.ElementStore.sorted c.args.store.now) c.in_ok-check_directory.ensures.check c.in-Some.record c.in_ok-ids.ids.items c.shown_of-shown.result.0
    c.shown_of-shown.ensures
    (subst (λ (o : Option PfsRecord). OnBalanced (g.T.HasElements.elements c.args.store.now) (g.T.HasRoom.extents c.args.store.now)
    (λ lists. IsRecordNow lists c.args.directory.now.at.pfs.0 o)) c.in-Some.is c.in_ok-record.ensures.ok)
    c.in_ok-ids.ensures.ok c.in_ok-record.ensures.keeps.elements c.in_ok-record.ensures.keeps.extents
    c.in_ok-retention.retention (let told = c.is_empty.ensures in let is = c.if-is_empty.false in grind (arith, nat_tests, told, is))
    (rw c.deref.ensures.value at c.in_ok-retention.ensures.ok)
    c.in_ok-retention.ensures.retention (rw c.deref.ensures.value at c.in_ok-retention.ensures.last)
