use Rattle.std.proofs.Common.{ap, arith, length, subst, ◌∙◌}
use Rattle.std.proofs.lemmas.Result.{on_ok_weaker}
use Rattle.hm_types.specs.Elements.{FullElement}
use Rattle.hm_key.specs.Counts.{record_subject}
use Rattle.hm_key.specs.Versions.{Adds}
use Rattle.hm_records.specs.PfsRecord.{pfs_bytes}
use Rattle.hm_cursor.specs.Write.{Writes, full_with}
use Rattle.hm_pfs.specs.Systems.{made_record}
use Rattle.hm_pfs.proofs.MadeLemmas.{full_made, lacks_at, new_record, room_for, spends_for}
use Rattle.hm_pfs.proofs.add.add_record.Goals as goal

pub insert_with_payload-requires-clause-new : goal.insert_with_payload-requires-clause-new
insert_with_payload-requires-clause-new g c =
    new_record c.args.number.0 c.args.id.0 c.record_base.result c.made_by-base.result c.args.value.now c.deref.result.now c.requires.id
    c.record_base.ensures c.made_by-base.ensures (c.deref.ensures.value ∙ c.in_ok-bytes.ensures.bytes)
    (omega (arith, ap length c.deref.ensures.value, c.in_ok-bytes.ensures.few))

pub insert_with_payload-requires-clause-lacks : goal.insert_with_payload-requires-clause-lacks
insert_with_payload-requires-clause-lacks g c =
    lacks_at (made_record c.args.number.0 c.args.value.now c.args.id.0) (full_with c.made_by-base.result c.deref.result.now)
    (g.T.HasElements.elements c.args.store.now)
    (full_made (record_subject c.args.number.0) c.args.id.0 c.record_base.result c.made_by-base.result c.deref.result.now (pfs_bytes c.args.value.now)
    c.record_base.ensures c.made_by-base.ensures (c.deref.ensures.value ∙ c.in_ok-bytes.ensures.bytes))
    c.requires.lacks

pub insert_with_payload-requires-clause-room : goal.insert_with_payload-requires-clause-room
insert_with_payload-requires-clause-room g c =
    room_for (g.T.HasRoom.room c.args.store.now) c.deref.result.now (pfs_bytes c.args.value.now)
    (c.deref.ensures.value ∙ c.in_ok-bytes.ensures.bytes) c.requires.room

pub returns-clause-ok : goal.returns-clause-ok
returns-clause-ok g c =
    on_ok_weaker c.insert_with_payload.result
    (subst (λ (e : FullElement). Writes g.T.HasElements.elements g.T.HasRoom.extents (Adds e) c.args.store.now c.insert_with_payload.new.store)
    (full_made (record_subject c.args.number.0) c.args.id.0 c.record_base.result c.made_by-base.result c.deref.result.now (pfs_bytes c.args.value.now)
    c.record_base.ensures c.made_by-base.ensures (c.deref.ensures.value ∙ c.in_ok-bytes.ensures.bytes)))
    c.insert_with_payload.ensures.ok

pub returns-clause-space : goal.returns-clause-space
returns-clause-space g c =
    spends_for g.T.HasRoom.room g.T.HasRoom.free c.deref.result.now (pfs_bytes c.args.value.now) c.args.store.now c.insert_with_payload.new.store
    (c.deref.ensures.value ∙ c.in_ok-bytes.ensures.bytes) c.insert_with_payload.ensures.space
