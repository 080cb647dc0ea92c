use Rattle.hm_step.proofs.HistoryLemmas.{keeps_failed, opened_failed, stands_failed}
use Rattle.hm_step.proofs.LegalLemmas.{may_follow_failed}
use Rattle.hm_step.proofs.laws.a_failed_call_is_a_step.Goals as goal

pub returns-clause-stands : goal.returns-clause-stands
returns-clause-stands c = λ run before event free es next fails. stands_failed run before event free es next fails

pub returns-clause-jobs : goal.returns-clause-jobs
returns-clause-jobs c = λ run before event free es next fails. keeps_failed run before event free es next fails

pub returns-clause-follows : goal.returns-clause-follows
returns-clause-follows c = λ run before event free es next fails numbers. may_follow_failed run before event free es next fails numbers

pub returns-clause-opened : goal.returns-clause-opened
returns-clause-opened c = λ run before event free es next fails. opened_failed run before event free es next fails
