use Rattle.std.proofs.Common.{refl}
use Rattle.std.proofs.lemmas.Result.{on_ok_weaker}
use Rattle.hm_key.specs.Versions.{Adds}
use Rattle.hm_cursor.proofs.CallLemmas.{writes_so}
use Rattle.hm_pfs.specs.Systems.{PutsSlave, made_record}
use Rattle.hm_pfs.proofs.MadeLemmas.{slave_room, slave_spends, unmade_lacks}
use Rattle.hm_pfs.proofs.SystemLemmas.{IsReady, others_named, ready, slave_added}
use Rattle.hm_pfs.proofs.add.add_slave.Goals as goal

pub add_record-requires-clause-lacks : goal.add_record-requires-clause-lacks
add_record-requires-clause-lacks g c =
    unmade_lacks c.args.number.0 c.args.id.0 (made_record c.args.number.0 c.new_slave.result c.args.id.0) (g.T.HasElements.elements c.args.store.now)
    (g.T.HasRoom.extents c.args.store.now) (g.met.T.Extents.together c.args.store.now) (others_named c.args.number.0) refl
    c.requires.unmade

pub add_record-requires-clause-room : goal.add_record-requires-clause-room
add_record-requires-clause-room g c =
    slave_room c.args.shared c.new_slave.result (g.T.HasRoom.room c.args.store.now) c.new_slave.ensures c.requires.room

pub returns-clause-ok : goal.returns-clause-ok
returns-clause-ok g c =
    on_ok_weaker c.add_record.result
    (writes_so g.T.HasElements.elements g.T.HasRoom.extents (Adds (made_record c.args.number.0 c.new_slave.result c.args.id.0))
    (PutsSlave c.args.number.0 c.args.shared c.args.id.0) (IsReady c.args.number.0 c.args.id.0) c.args.store.now c.add_record.new.store
    (ready c.args.number.0 c.args.id.0 (g.T.HasElements.elements c.args.store.now) (g.T.HasRoom.extents c.args.store.now)
    (g.met.T.ElementStore.sorted c.args.store.now) c.requires.unmade)
    (λ was es' known. slave_added c.args.number.0 c.args.shared c.args.id.0 c.new_slave.result was es' c.new_slave.ensures known))
    c.add_record.ensures.ok

pub returns-clause-space : goal.returns-clause-space
returns-clause-space g c =
    slave_spends g.T.HasRoom.room g.T.HasRoom.free c.args.shared c.new_slave.result c.args.store.now c.add_record.new.store c.new_slave.ensures
    c.add_record.ensures.space
