use Rattle.hm_model.proofs.PassEndLemmas.{at-streamed}
use Rattle.hm_model.proofs.laws.passes.streams_bring_their_masters_trees.Goals as goal

pub returns : goal.returns
returns c = at-streamed
