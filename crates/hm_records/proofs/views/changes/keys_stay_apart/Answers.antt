use Rattle.hm_records.proofs.ChangeLemmas.{own_keys_adds, own_keys_closes, own_keys_takes_out}
use Rattle.hm_records.proofs.views.changes.keys_stay_apart.Goals as goal

pub returns-clause-adds : goal.returns-clause-adds
returns-clause-adds c = own_keys_adds

pub returns-clause-closes : goal.returns-clause-closes
returns-clause-closes c = own_keys_closes

pub returns-clause-takes_out : goal.returns-clause-takes_out
returns-clause-takes_out c = own_keys_takes_out
