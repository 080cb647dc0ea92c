use Rattle.hm_records.proofs.ChangeLemmas.{counts_from}
use Rattle.hm_records.proofs.views.changes.later_ids_count_the_same.Goals as goal

pub returns : goal.returns
returns c = λ es t u up up'. counts_from es t u up up'
