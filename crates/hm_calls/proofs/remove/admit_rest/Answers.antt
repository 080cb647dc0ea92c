use Rattle.std.proofs.Common.{refl}
use Rattle.hm_types.specs.Space.{nothing}
use Rattle.hm_calls.proofs.TakeLemmas.{takes_charged, took_nothing}
use Rattle.hm_calls.proofs.remove.admit_rest.Goals as goal

pub returns-then-inode-le1-clause-room : goal.returns-then-inode-le1-clause-room
returns-then-inode-le1-clause-room g c = (
  takes_charged g.T.HasRoom.room g.T.HasRoom.free nothing c.args.store.now c.args.store.now _
      (took_nothing g.T.HasRoom.room g.T.HasRoom.free nothing c.args.store.now c.args.store.now refl refl),
  refl,
  refl,
)
