use Rattle.hm_records.proofs.ChangeLemmas.{adds_below, closes_below, takes_out_unseen}
use Rattle.hm_records.proofs.views.changes.changes_leave_the_past.Goals as goal

pub returns-clause-adds : goal.returns-clause-adds
returns-clause-adds c = adds_below

pub returns-clause-closes : goal.returns-clause-closes
returns-clause-closes c = closes_below

pub returns-clause-takes_out : goal.returns-clause-takes_out
returns-clause-takes_out c = takes_out_unseen
