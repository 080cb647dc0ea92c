use Rattle.hm_model.proofs.ExampleLemmas.{legal-reads_of_the_past, legal-snapshots_and_prune}
use Rattle.hm_model.proofs.laws.examples.examples_of_the_past_are_legal.Goals as goal

pub returns-clause-reads : goal.returns-clause-reads
returns-clause-reads c = legal-reads_of_the_past

pub returns-clause-prune : goal.returns-clause-prune
returns-clause-prune c = legal-snapshots_and_prune
