use Rattle.hm_model.proofs.ExampleLemmas.{legal-mirror_copies, legal-an_upgrade, legal-a_stream_is_sent, legal-a_pruned_end}
use Rattle.hm_model.proofs.laws.examples.examples_of_mirrors_are_legal.Goals as goal

pub returns-clause-copies : goal.returns-clause-copies
returns-clause-copies c = legal-mirror_copies

pub returns-clause-upgrade : goal.returns-clause-upgrade
returns-clause-upgrade c = legal-an_upgrade

pub returns-clause-sent : goal.returns-clause-sent
returns-clause-sent c = legal-a_stream_is_sent

pub returns-clause-pruned : goal.returns-clause-pruned
returns-clause-pruned c = legal-a_pruned_end
