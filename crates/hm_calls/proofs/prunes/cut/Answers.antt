use Rattle.std.proofs.Common.{subst}
use Rattle.std.specs.Prelude.{IfSome, Option}
use Rattle.hm_retain.specs.Retention.{IsRetention}
use Rattle.hm_records.specs.declared.pfs_record.PfsRecord.{PfsRecord}
use Rattle.hm_calls.proofs.PruneRecordLemmas.{record_room, takes_record}
use Rattle.hm_calls.proofs.TakeLemmas.{both_stay}
use Rattle.hm_calls.proofs.prunes.cut.Goals as goal

pub replace_record-requires-clause-room : goal.replace_record-requires-clause-room
replace_record-requires-clause-room g c =
    record_room (g.T.HasRoom.room c.admit_names.new.store) c.in-Some.to
    (subst (λ (o : Option PfsRecord). IfSome o (λ r. IsRetention r.retention)) c.in-Some.is c.requires.few) c.in_ok-admit_names.ensures.reserves

pub returns-in_err-replace_record-clause-room : goal.returns-in_err-replace_record-clause-room
returns-in_err-replace_record-clause-room g c =
    let stays = both_stay c.in_err-replace_record.ensures.borrowed (c.in_ok-admit_names.ensures.room.1, c.in_ok-admit_names.ensures.room.2) in (
      takes_record g.T.HasRoom.room g.T.HasRoom.free c.args.store.now c.admit_names.new.store c.replace_record.new.store c.in-Some.to _
          (subst (λ (o : Option PfsRecord). IfSome o (λ r. IsRetention r.retention)) c.in-Some.is c.requires.few)
          c.in_ok-admit_names.ensures.room.0.charges c.in_err-replace_record.ensures.space,
      stays.0,
      stays.1,
    )

pub returns-clause-room : goal.returns-clause-room
returns-clause-room g c =
    let stays = both_stay c.in_ok-replace_record.ensures.borrowed (c.in_ok-admit_names.ensures.room.1, c.in_ok-admit_names.ensures.room.2) in (
      takes_record g.T.HasRoom.room g.T.HasRoom.free c.args.store.now c.admit_names.new.store c.replace_record.new.store c.in-Some.to _
          (subst (λ (o : Option PfsRecord). IfSome o (λ r. IsRetention r.retention)) c.in-Some.is c.requires.few)
          c.in_ok-admit_names.ensures.room.0.charges c.in_ok-replace_record.ensures.space,
      stays.0,
      stays.1,
    )
