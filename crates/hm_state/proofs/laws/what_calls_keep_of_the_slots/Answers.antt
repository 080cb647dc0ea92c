use Rattle.hm_state.proofs.CommittedLemmas.{header_stays, slots_same}
use Rattle.hm_state.proofs.laws.what_calls_keep_of_the_slots.Goals as goal

pub returns-clause-header : goal.returns-clause-header
returns-clause-header c = λ old new s t header slot same was is counts. header_stays old new same s t was is header slot counts

pub returns-clause-same_slots : goal.returns-clause-same_slots
returns-clause-same_slots c = λ old new s t same was is. slots_same old new same s t was is
