use Rattle.hm_model.specs.After.{effect}
use Rattle.hm_model.proofs.RefusalLemmas.{same-refused_ending, systems-refused_ending, trees-but_origin}
use Rattle.hm_model.proofs.laws.refusals.refused_endings_keep_all_but_sources.Goals as goal

pub returns-clause-systems : goal.returns-clause-systems
returns-clause-systems c = systems-refused_ending

pub returns-clause-sources : goal.returns-clause-sources
returns-clause-sources c = same-refused_ending

pub returns-clause-views : goal.returns-clause-views
returns-clause-views c state event pfs id refused call =
    trees-but_origin pfs id state.volume.systems (effect state event).volume.systems (systems-refused_ending state event refused call)
