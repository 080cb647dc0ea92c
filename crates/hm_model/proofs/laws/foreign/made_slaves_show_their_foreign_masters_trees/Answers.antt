use Rattle.hm_model.proofs.ForeignEndLemmas.{FollowsForeign-made}
use Rattle.hm_model.proofs.laws.foreign.made_slaves_show_their_foreign_masters_trees.Goals as goal

pub returns : goal.returns
returns c = FollowsForeign-made
