use Rattle.hm_model.proofs.ForeignEndLemmas.{FollowsForeign-legal}
use Rattle.hm_model.proofs.laws.foreign.slaves_show_their_foreign_masters_trees.Goals as goal

pub returns : goal.returns
returns c = FollowsForeign-legal
