use Rattle.hm_types.specs.Space.{nothing}
use Rattle.hm_key.proofs.ChargeLemmas.{charges_admitted}
use Rattle.hm_calls.proofs.TakeLemmas.{takes_charged}
use Rattle.hm_calls.proofs.room.admit_names.Goals as goal

pub returns-in-Ok-clause-room : goal.returns-in-Ok-clause-room
returns-in-Ok-clause-room g c =
    let admission = c.in-Ok.ensures.answers in (
      takes_charged g.T.HasRoom.room g.T.HasRoom.free nothing c.args.store.now c.admit.new.self _
          (charges_admitted g.T.HasRoom.room g.T.HasRoom.free _ c.args.held c.args.store.now c.admit.new.self admission.ok admission.whole admission.room),
      c.admit.ensures.name,
      c.admit.ensures.frame,
    )
