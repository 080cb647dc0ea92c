use Rattle.hm_model.proofs.MadeLemmas.{follows_made}
use Rattle.hm_model.proofs.laws.made.made_slaves_show_their_masters_trees.Goals as goal

pub returns : goal.returns
returns c run before event rest path shared master root legal makes from rising begun =
    follows_made run before event rest path shared master root legal makes from (record { rising = rising; begun = begun })
