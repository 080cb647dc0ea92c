use Rattle.hm_records.proofs.ChangeLemmas.{below_adds, below_closes, below_later, below_takes_out}
use Rattle.hm_records.proofs.views.changes.ids_stay_below.Goals as goal

pub returns-clause-adds : goal.returns-clause-adds
returns-clause-adds c = below_adds

pub returns-clause-closes : goal.returns-clause-closes
returns-clause-closes c = below_closes

pub returns-clause-takes_out : goal.returns-clause-takes_out
returns-clause-takes_out c = below_takes_out

pub returns-clause-later : goal.returns-clause-later
returns-clause-later c = below_later
