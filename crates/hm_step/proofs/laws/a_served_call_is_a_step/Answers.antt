use Rattle.hm_step.proofs.HistoryLemmas.{allowed, left_so}
use Rattle.hm_step.proofs.LegalLemmas.{may_follow}
use Rattle.hm_step.proofs.laws.a_served_call_is_a_step.Goals as goal

pub returns-clause-stands : goal.returns-clause-stands
returns-clause-stands c = λ run before event room free es es' answered next reply_same served held.
    (left_so run before event room free es es' answered next reply_same served).stands held

pub returns-clause-jobs : goal.returns-clause-jobs
returns-clause-jobs c = λ run before event room free es es' answered next reply_same served.
    (left_so run before event room free es es' answered next reply_same served).jobs

pub returns-clause-opened : goal.returns-clause-opened
returns-clause-opened c = λ run before event room free es es' answered next reply_same served.
    (left_so run before event room free es es' answered next reply_same served).opened

pub returns-clause-leads : goal.returns-clause-leads
returns-clause-leads c = λ run before event room free es es' answered next reply_same served.
    (left_so run before event room free es es' answered next reply_same served).leads

pub returns-clause-follows : goal.returns-clause-follows
returns-clause-follows c = λ run before event room free es es' answered next reply_same served.
    may_follow run before event free es next room es' answered reply_same served

pub returns-clause-allowed : goal.returns-clause-allowed
returns-clause-allowed c = λ run before event room free es es' answered next reply_same served.
    allowed run before event room free es es' answered next reply_same served
