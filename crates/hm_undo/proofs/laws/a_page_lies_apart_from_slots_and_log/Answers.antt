use Rattle.hm_undo.proofs.LogLemmas.{page-apart, page-past_slots, page-within}
use Rattle.hm_undo.proofs.laws.a_page_lies_apart_from_slots_and_log.Goals as goal

pub returns-clause-past_the_slots : goal.returns-clause-past_the_slots
returns-clause-past_the_slots c = page-past_slots

pub returns-clause-within : goal.returns-clause-within
returns-clause-within c = page-within

pub returns-clause-log : goal.returns-clause-log
returns-clause-log c = page-apart
