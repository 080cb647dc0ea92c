use Rattle.std.proofs.Common.{◌≡◌}
use Rattle.hm_model.specs.declared.command.Command.TheVariants.{PfsStatus}
use Rattle.hm_calls.proofs.SystemLemmas.{accepted_due, refused_due}
use Rattle.hm_calls.proofs.systems.pfs_status.Goals as goal

pub returns-in-Ok-clause-due : goal.returns-in-Ok-clause-due
returns-in-Ok-clause-due g c =
    accepted_due (g.H.NameHash.hash_of c.args.hash.now) c.args.id.0 (λ call. call.command ≡ PfsStatus c.args.path.now)
    (g.T.HasElements.elements c.args.store.now) (g.T.HasRoom.extents c.args.store.now) (g.T.HasRoom.room c.args.store.now)
    (g.T.HasRoom.free c.args.store.now) c.in-Ok.reply c.in-Ok.ensures.answers.0

pub returns-in-Err-Refused-clause-due : goal.returns-in-Err-Refused-clause-due
returns-in-Err-Refused-clause-due g c =
    refused_due (g.H.NameHash.hash_of c.args.hash.now) c.args.id.0 (λ call. call.command ≡ PfsStatus c.args.path.now)
    (g.T.HasElements.elements c.args.store.now) (g.T.HasRoom.extents c.args.store.now) (g.T.HasRoom.room c.args.store.now)
    (g.T.HasRoom.free c.args.store.now) c.in-Err-Refused.reply (rw c.in-Err-Refused.field-0-is at c.in-Err-Refused.ensures.answers).0

pub returns-in-Err-Refused-clause-possible : goal.returns-in-Err-Refused-clause-possible
returns-in-Err-Refused-clause-possible g c = rw c.in-Err-Refused.field-0-is at c.in-Err-Refused.ensures.gives
