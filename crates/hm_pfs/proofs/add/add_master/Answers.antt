use Rattle.std.proofs.lemmas.Result.{on_ok_weaker}
use Rattle.hm_types.specs.Elements.{FullElement}
use Rattle.hm_key.specs.Versions.{Adds}
use Rattle.std.proofs.Common.{◌≢◌, refl}
use Rattle.std.specs.List.{Contains}
use Rattle.hm_cursor.proofs.CallLemmas.{Then, known_after, writes_both, writes_so}
use Rattle.hm_pfs.specs.Systems.{PutsMaster, made_record, made_root}
use Rattle.hm_pfs.proofs.MadeLemmas.{master_room, master_spends, master_spends_first, root_room, told_lacks, unmade_lacks}
use Rattle.hm_pfs.proofs.SystemLemmas.{IsReady, master_added, others_named, ready, root_lacks}
use Rattle.hm_pfs.proofs.add.add_master.Goals as goal

pub add_record-requires-clause-lacks : goal.add_record-requires-clause-lacks
add_record-requires-clause-lacks g c =
    unmade_lacks c.args.number.0 c.args.id.0 (made_record c.args.number.0 c.in_ok-record.record c.args.id.0) (g.T.HasElements.elements c.args.store.now)
    (g.T.HasRoom.extents c.args.store.now) (g.met.T.Extents.together c.args.store.now) (others_named c.args.number.0) refl
    c.requires.unmade

pub add_record-requires-clause-room : goal.add_record-requires-clause-room
add_record-requires-clause-room g c =
    master_room c.args.shared c.in_ok-record.record (g.T.HasRoom.room c.args.store.now) c.in_ok-record.ensures c.requires.room

pub add_root-requires-clause-lacks : goal.add_root-requires-clause-lacks
add_root-requires-clause-lacks g c =
    told_lacks (made_root c.args.number.0 c.args.id.0) (g.T.HasElements.elements c.add_record.new.store) (g.T.HasRoom.extents c.add_record.new.store)
    (g.met.T.Extents.together c.add_record.new.store)
    (known_after g.T.HasElements.elements g.T.HasRoom.extents (Adds (made_record c.args.number.0 c.in_ok-record.record c.args.id.0))
    (IsReady c.args.number.0 c.args.id.0) (λ es. (x : FullElement) → Contains es x → x.key ≢ (made_root c.args.number.0 c.args.id.0).key)
    c.args.store.now c.add_record.new.store c.in_ok-add_record.ensures.keeps.elements c.in_ok-add_record.ensures.keeps.extents
    c.requires.balanced
    (ready c.args.number.0 c.args.id.0 (g.T.HasElements.elements c.args.store.now) (g.T.HasRoom.extents c.args.store.now)
    (g.met.T.ElementStore.sorted c.args.store.now) c.requires.unmade)
    (root_lacks c.args.number.0 c.args.id.0 c.in_ok-record.record)
    c.in_ok-add_record.ensures.ok)

pub add_root-requires-clause-room : goal.add_root-requires-clause-room
add_root-requires-clause-room g c =
    root_room g.T.HasRoom.room g.T.HasRoom.free c.args.shared c.in_ok-record.record c.args.store.now c.add_record.new.store c.in_ok-record.ensures
    c.in_ok-add_record.ensures.space c.requires.room

pub returns-clause-ok : goal.returns-clause-ok
returns-clause-ok g c =
    on_ok_weaker c.add_root.result
    (λ second. writes_so g.T.HasElements.elements g.T.HasRoom.extents
    (Then (Adds (made_record c.args.number.0 c.in_ok-record.record c.args.id.0)) (Adds (made_root c.args.number.0 c.args.id.0)))
    (PutsMaster c.args.number.0 c.args.shared c.args.id.0) (IsReady c.args.number.0 c.args.id.0) c.args.store.now c.add_root.new.store
    (ready c.args.number.0 c.args.id.0 (g.T.HasElements.elements c.args.store.now) (g.T.HasRoom.extents c.args.store.now)
    (g.met.T.ElementStore.sorted c.args.store.now) c.requires.unmade)
    (λ was es' known. master_added c.args.number.0 c.args.shared c.args.id.0 c.in_ok-record.record was es' c.in_ok-record.ensures known)
    (writes_both g.T.HasElements.elements g.T.HasRoom.extents (Adds (made_record c.args.number.0 c.in_ok-record.record c.args.id.0))
    (Adds (made_root c.args.number.0 c.args.id.0)) c.args.store.now c.add_record.new.store c.add_root.new.store
    c.in_ok-add_record.ensures.ok second))
    c.add_root.ensures.ok

pub returns-clause-space : goal.returns-clause-space
returns-clause-space g c =
    master_spends g.T.HasRoom.room g.T.HasRoom.free c.args.shared c.in_ok-record.record c.args.store.now c.add_record.new.store c.add_root.new.store
    c.in_ok-record.ensures c.in_ok-add_record.ensures.space c.add_root.ensures.space

pub returns-in_err-add_record-clause-space : goal.returns-in_err-add_record-clause-space
returns-in_err-add_record-clause-space g c =
    master_spends_first g.T.HasRoom.room g.T.HasRoom.free c.args.shared c.in_ok-record.record c.args.store.now c.add_record.new.store
    c.in_ok-record.ensures c.in_err-add_record.ensures.space
