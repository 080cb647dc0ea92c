use Rattle.std.proofs.Common.{ap}
use Rattle.hm_model.specs.After.{State}
use Rattle.hm_model.proofs.RefusalLemmas.{effect-refused, tree_among}
use Rattle.hm_model.proofs.laws.refusals.refused_calls_change_nothing.Goals as goal

pub returns-clause-systems : goal.returns-clause-systems
returns-clause-systems c state event refused call = ap (λ (s : State). s.volume.systems) (effect-refused state event refused call)

pub returns-clause-opened : goal.returns-clause-opened
returns-clause-opened c state event refused call = ap (λ (s : State). s.opened) (effect-refused state event refused call)

pub returns-clause-views : goal.returns-clause-views
returns-clause-views c state event pfs id refused call = ap (λ (s : State). tree_among s.volume.systems pfs id) (effect-refused state event refused call)
