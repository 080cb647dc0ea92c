use Rattle.std.proofs.Common.{sym, subst}
use Rattle.hm_types.specs.Name.{IsName}
use Rattle.hm_calls.proofs.SpaceLemmas.{entry_room, entry_spends}
use Rattle.hm_calls.proofs.put.put_name.Goals as goal

pub add_name-requires-clause-room : goal.add_name-requires-clause-room
add_name-requires-clause-room g c =
    entry_room (g.T.HasRoom.room c.args.store.now) c.args.obj c.in_ok-clone.field-0
    (subst IsName (sym c.in_ok-clone.ensures.cases) c.requires.values.0) c.requires.room

pub returns-clause-space : goal.returns-clause-space
returns-clause-space g c =
    entry_spends g.T.HasRoom.room g.T.HasRoom.free c.args.obj c.in_ok-clone.field-0 c.args.store.now c.add_name.new.store
    (subst IsName (sym c.in_ok-clone.ensures.cases) c.requires.values.0) c.add_name.ensures.space
