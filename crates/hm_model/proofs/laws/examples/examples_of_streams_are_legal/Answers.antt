use Rattle.hm_model.proofs.ExampleLemmas.{legal-a_foreign_stream, legal-a_stream_of_nobody, shows-new_volume}
use Rattle.hm_model.proofs.laws.examples.examples_of_streams_are_legal.Goals as goal

pub returns-clause-foreign : goal.returns-clause-foreign
returns-clause-foreign c = legal-a_foreign_stream

pub returns-clause-nobody : goal.returns-clause-nobody
returns-clause-nobody c = legal-a_stream_of_nobody

pub returns-clause-shown : goal.returns-clause-shown
returns-clause-shown c = shows-new_volume
