use Rattle.std.proofs.Common.{◌≡◌, ◌∙◌, ℕ, None, Some, Err, ap, length, refl, subst, sym, arith}
use Rattle.std.specs.Prelude.{Option}
use Rattle.std.proofs.lemmas.Result.{err_from_is_err_and}
use Rattle.hm_model.specs.declared.command.Command.TheVariants.{PfsStatus}
use Rattle.hm_model.specs.declared.reply.Reply.TheVariants.{NotFound, PfsIs}
use Rattle.hm_cursor.specs.Told.{IsRecordNow, OnBalanced}
use Rattle.hm_records.specs.declared.pfs_record.PfsRecord.{PfsRecord}
use Rattle.hm_dirs.proofs.WalkLoopLemmas.{same_twice}
use Rattle.hm_calls.specs.Replies.{IsAcceptedBy}
use Rattle.hm_calls.specs.Systems.{of_status}
use Rattle.hm_calls.proofs.SystemLemmas.{given_later, gives_refused, length_pairs, looks_stopped, tells_system}
use Rattle.hm_calls.proofs.systems.tell_system.Goals as goal

pub returns-in_err-end-clause-answers : goal.returns-in_err-end-clause-answers
returns-in_err-end-clause-answers g c =
    let p = err_from_is_err_and c.from_residual.result c.from_residual.ensures.1 in
    looks_stopped g.T.HasElements.elements g.T.HasElements.mark g.T.HasRoom.extents g.T.HasRoom.room g.T.HasRoom.free
    (g.H.NameHash.hash_of c.args.hash.now) c.args.id.0 (PfsStatus c.args.word.now) c.args.store.now c.reach_system.new.store c.from_residual.result
    c.in_err-end.field-0.0 (p.1 ∙ ap Err p.2) (c.in_err-end.ensures.refused (PfsStatus c.args.word.now) of_status) c.in_err-end.ensures.keeps

pub returns-in_err-end-clause-gives : goal.returns-in_err-end-clause-gives
returns-in_err-end-clause-gives g c =
    let p = err_from_is_err_and c.from_residual.result c.from_residual.ensures.1 in
    gives_refused c.args.id.0 (PfsStatus c.args.word.now) c.from_residual.result c.in_err-end.field-0.0 (p.1 ∙ ap Err p.2)
    (c.in_err-end.ensures.gives (PfsStatus c.args.word.now) of_status)

pub returns-in_default-clause-answers : goal.returns-in_default-clause-answers
returns-in_default-clause-answers g c = (
  tells_system (g.H.NameHash.hash_of c.args.hash.now) c.args.id.0 c.args.word.now (g.T.HasElements.elements c.args.store.now)
      (g.T.HasElements.elements c.reach_system.new.store) (g.T.HasRoom.extents c.args.store.now) (g.T.HasRoom.extents c.reach_system.new.store)
      (g.T.HasRoom.room c.args.store.now) (g.T.HasRoom.free c.args.store.now) c.in_ok-end.end None (g.met.T.ElementStore.sorted c.args.store.now)
      c.in_ok-end.ensures.keeps.elements c.in_ok-end.ensures.keeps.extents (c.in_ok-end.ensures.comes (PfsStatus c.args.word.now) of_status)
      (subst (λ (o : Option PfsRecord). OnBalanced (g.T.HasElements.elements c.reach_system.new.store) (g.T.HasRoom.extents c.reach_system.new.store)
      (λ lists. IsRecordNow lists c.in_ok-end.end.at.pfs.0 o)) c.in_default.is c.in_ok-record.ensures.ok),
  same_twice c.in_ok-end.ensures.keeps c.in_ok-record.ensures.keeps,
)

pub returns-in_default-clause-gives : goal.returns-in_default-clause-gives
returns-in_default-clause-gives g c =
    given_later c.args.id.0 (PfsStatus c.args.word.now) NotFound tt (c.in_ok-end.ensures.early (PfsStatus c.args.word.now) of_status)
    (λ paths. (1, omega arith, refl))

pub returns-clause-answers : goal.returns-clause-answers
returns-clause-answers g c = (
  subst (λ (n : ℕ). IsAcceptedBy (g.H.NameHash.hash_of c.args.hash.now) c.args.id.0 (λ call. call.command ≡ PfsStatus c.args.word.now)
      (g.T.HasElements.elements c.args.store.now) (g.T.HasRoom.extents c.args.store.now) (g.T.HasRoom.room c.args.store.now)
      (g.T.HasRoom.free c.args.store.now)
      (PfsIs c.in-Some.record.master c.in_ok-end.end.at.pfs c.in-Some.record.shared n c.in-Some.record.sync_end))
      (sym (ap length c.pairs.ensures.value) ∙ length_pairs c.pairs.result.now)
      (tells_system (g.H.NameHash.hash_of c.args.hash.now) c.args.id.0 c.args.word.now (g.T.HasElements.elements c.args.store.now)
      (g.T.HasElements.elements c.reach_system.new.store) (g.T.HasRoom.extents c.args.store.now) (g.T.HasRoom.extents c.reach_system.new.store)
      (g.T.HasRoom.room c.args.store.now) (g.T.HasRoom.free c.args.store.now) c.in_ok-end.end (Some c.in-Some.record)
      (g.met.T.ElementStore.sorted c.args.store.now) c.in_ok-end.ensures.keeps.elements c.in_ok-end.ensures.keeps.extents
      (c.in_ok-end.ensures.comes (PfsStatus c.args.word.now) of_status)
      (subst (λ (o : Option PfsRecord). OnBalanced (g.T.HasElements.elements c.reach_system.new.store) (g.T.HasRoom.extents c.reach_system.new.store)
      (λ lists. IsRecordNow lists c.in_ok-end.end.at.pfs.0 o)) c.in-Some.is c.in_ok-record.ensures.ok)),
  same_twice c.in_ok-end.ensures.keeps c.in_ok-record.ensures.keeps,
)

pub returns-clause-gives : goal.returns-clause-gives
returns-clause-gives g c =
    given_later c.args.id.0 (PfsStatus c.args.word.now)
    (PfsIs c.in-Some.record.master c.in_ok-end.end.at.pfs c.in-Some.record.shared (length c.pairs.result.now) c.in-Some.record.sync_end)
    tt (c.in_ok-end.ensures.early (PfsStatus c.args.word.now) of_status) (λ paths. (0, omega arith, refl))
