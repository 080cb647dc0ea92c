use Rattle.hm_calls.proofs.SpaceLemmas.{snapshot_size, target_room, target_spends}
use Rattle.std.proofs.Common.{length}
use Rattle.hm_calls.proofs.put.add_object.Goals as goal

pub add_softlink-requires-in-Snapshot-clause-target : goal.add_softlink-requires-in-Snapshot-clause-target
add_softlink-requires-in-Snapshot-clause-target g c = snapshot_size c.args.id.0 c.in_ok-target-in-Snapshot.target c.in_ok-target-in-Snapshot.ensures

pub add_softlink-requires-in-Snapshot-clause-room : goal.add_softlink-requires-in-Snapshot-clause-room
add_softlink-requires-in-Snapshot-clause-room g c =
    target_room (g.T.HasRoom.room c.args.store.now) (length c.in_ok-target-in-Snapshot.target)
    (snapshot_size c.args.id.0 c.in_ok-target-in-Snapshot.target c.in_ok-target-in-Snapshot.ensures).1 c.requires.room

pub returns-in_ok-target-in-Snapshot-clause-space : goal.returns-in_ok-target-in-Snapshot-clause-space
returns-in_ok-target-in-Snapshot-clause-space g c =
    target_spends g.T.HasRoom.room g.T.HasRoom.free (length c.in_ok-target-in-Snapshot.target) c.args.store.now c.add_softlink-in-Snapshot.new.store
    (snapshot_size c.args.id.0 c.in_ok-target-in-Snapshot.target c.in_ok-target-in-Snapshot.ensures).1 c.add_softlink-in-Snapshot.ensures.space
