use Rattle.hm_step.proofs.CauseLemmas.{may_cause, may_counts, may_end}
use Rattle.hm_step.proofs.laws.a_possible_reply_has_its_cause.Goals as goal

pub returns-clause-caused : goal.returns-clause-caused
returns-clause-caused c = λ now known busy event next may. may_cause known event next busy may now

pub returns-clause-told : goal.returns-clause-told
returns-clause-told c = λ known busy event next may. (may_counts known event next busy may, may_end known event next busy may)
