use Rattle.std.proofs.Common.{ap}
use Rattle.hm_model.specs.After.{State, last_after, on_volume}
use Rattle.hm_model.proofs.LookLemmas.{effect-look}
use Rattle.hm_model.proofs.laws.calls.looks_change_nothing.Goals as goal

pub returns : goal.returns
returns c state event looks =
    ap (λ (s : State). on_volume s (record s.volume { last = last_after event.entry })) (effect-look state event looks)
