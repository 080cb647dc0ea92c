use Rattle.std.proofs.Common.{refl, subst, ◌∙◌}
use Rattle.std.proofs.lemmas.Result.{on_ok_weaker}
use Rattle.hm_types.specs.Elements.{FullElement}
use Rattle.hm_key.specs.Counts.{inode_subject}
use Rattle.hm_key.specs.Versions.{Adds}
use Rattle.hm_records.specs.Inode.{inode_bytes}
use Rattle.hm_records.specs.declared.kind.TheConstants.{DIRECTORY}
use Rattle.hm_cursor.specs.Write.{Writes, full_with}
use Rattle.hm_objects.specs.Objects.{inode_of}
use Rattle.hm_objects.proofs.NewLemmas.{new_inode}
use Rattle.hm_objects.proofs.ShownLemmas.{directory_inode}
use Rattle.hm_objects.proofs.SpaceLemmas.{inode_room, inode_spends}
use Rattle.hm_pfs.specs.Systems.{made_root}
use Rattle.hm_pfs.proofs.MadeLemmas.{full_made, lacks_at}
use Rattle.hm_pfs.proofs.add.add_root.Goals as goal

pub insert_with_payload-requires-clause-new : goal.insert_with_payload-requires-clause-new
insert_with_payload-requires-clause-new g c =
    new_inode c.args.number.0 1 c.args.id.0 DIRECTORY c.inode_base.result c.made_by-base.result (inode_of DIRECTORY 0) c.deref.result.now
    c.requires.id directory_inode refl c.inode_base.ensures c.made_by-base.ensures (c.deref.ensures.value ∙ c.in_ok-bytes.ensures)

pub insert_with_payload-requires-clause-lacks : goal.insert_with_payload-requires-clause-lacks
insert_with_payload-requires-clause-lacks g c =
    lacks_at (made_root c.args.number.0 c.args.id.0) (full_with c.made_by-base.result c.deref.result.now)
    (g.T.HasElements.elements c.args.store.now)
    (full_made (inode_subject c.args.number.0 1) c.args.id.0 c.inode_base.result c.made_by-base.result c.deref.result.now
    (inode_bytes (inode_of DIRECTORY 0)) c.inode_base.ensures c.made_by-base.ensures (c.deref.ensures.value ∙ c.in_ok-bytes.ensures))
    c.requires.lacks

pub insert_with_payload-requires-clause-room : goal.insert_with_payload-requires-clause-room
insert_with_payload-requires-clause-room g c =
    inode_room (g.T.HasRoom.room c.args.store.now) (inode_of DIRECTORY 0) c.deref.result.now (c.deref.ensures.value ∙ c.in_ok-bytes.ensures)
    c.requires.room

pub returns-clause-ok : goal.returns-clause-ok
returns-clause-ok g c =
    on_ok_weaker c.insert_with_payload.result
    (subst (λ (e : FullElement). Writes g.T.HasElements.elements g.T.HasRoom.extents (Adds e) c.args.store.now c.insert_with_payload.new.store)
    (full_made (inode_subject c.args.number.0 1) c.args.id.0 c.inode_base.result c.made_by-base.result c.deref.result.now
    (inode_bytes (inode_of DIRECTORY 0)) c.inode_base.ensures c.made_by-base.ensures (c.deref.ensures.value ∙ c.in_ok-bytes.ensures)))
    c.insert_with_payload.ensures.ok

pub returns-clause-space : goal.returns-clause-space
returns-clause-space g c =
    inode_spends g.T.HasRoom.room g.T.HasRoom.free (inode_of DIRECTORY 0) c.deref.result.now c.args.store.now c.insert_with_payload.new.store
    (c.deref.ensures.value ∙ c.in_ok-bytes.ensures) c.insert_with_payload.ensures.space
