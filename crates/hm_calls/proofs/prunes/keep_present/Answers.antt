use Rattle.std.proofs.Common.{subst, arith}
use Rattle.std.specs.Prelude.{Option}
use Rattle.hm_cursor.specs.Told.{IsRecordNow, OnBalanced}
use Rattle.hm_records.specs.declared.pfs_record.PfsRecord.{PfsRecord}
use Rattle.hm_calls.proofs.PruneCheckLemmas.{present_none, present_some}
use Rattle.hm_calls.proofs.prunes.keep_present.Goals as goal

pub returns-in_default-clause-told : goal.returns-in_default-clause-told
returns-in_default-clause-told g c hash =
    present_none hash c.args.id.0 c.args.pfs.0 (g.T.HasElements.elements c.args.store.now) (g.T.HasRoom.extents c.args.store.now)
    (g.met.T.ElementStore.sorted c.args.store.now)
    (subst (λ (o : Option PfsRecord). OnBalanced (g.T.HasElements.elements c.args.store.now) (g.T.HasRoom.extents c.args.store.now)
    (λ lists. IsRecordNow lists c.args.pfs.0 o)) c.in_default.is c.in_ok-record.ensures.ok)

pub returns-clause-told : goal.returns-clause-told
returns-clause-told g c hash =
    present_some hash c.args.id.0 c.args.pfs.0 (g.T.HasElements.elements c.args.store.now) (g.T.HasRoom.extents c.args.store.now) c.in-Some.record
    c.in_ok-retention.retention (g.met.T.ElementStore.sorted c.args.store.now)
    (subst (λ (o : Option PfsRecord). OnBalanced (g.T.HasElements.elements c.args.store.now) (g.T.HasRoom.extents c.args.store.now)
    (λ lists. IsRecordNow lists c.args.pfs.0 o)) c.in-Some.is c.in_ok-record.ensures.ok)
    c.in_ok-retention.ensures.retention c.in_ok-retention.ensures.ok (let most = c.requires.id in omega (arith, most))
