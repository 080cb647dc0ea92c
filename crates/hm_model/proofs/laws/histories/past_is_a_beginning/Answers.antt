use Rattle.hm_model.proofs.BeginningLemmas.{IsLegal-events_to, events_to-begins}
use Rattle.hm_model.proofs.laws.histories.past_is_a_beginning.Goals as goal

pub returns-clause-begins : goal.returns-clause-begins
returns-clause-begins c = events_to-begins

pub returns-clause-legal : goal.returns-clause-legal
returns-clause-legal c = IsLegal-events_to
