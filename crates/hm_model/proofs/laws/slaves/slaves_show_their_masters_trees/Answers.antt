use Rattle.hm_model.proofs.FollowLemmas.{FollowsMaster-legal}
use Rattle.hm_model.proofs.laws.slaves.slaves_show_their_masters_trees.Goals as goal

pub returns : goal.returns
returns c = FollowsMaster-legal
