use Rattle.hm_records.proofs.CountsLemmas.{own_keys-sorted, settled}
use Rattle.hm_records.proofs.views.contents.keys_settle_what_counts.Goals as goal

pub returns-clause-sorted : goal.returns-clause-sorted
returns-clause-sorted c = own_keys-sorted

pub returns-clause-settled : goal.returns-clause-settled
returns-clause-settled c = settled
