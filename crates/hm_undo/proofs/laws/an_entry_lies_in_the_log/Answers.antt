use Rattle.hm_undo.proofs.LogLemmas.{entry-block, entry-from, entry-past_slots, entry-to, entry-within}
use Rattle.hm_undo.proofs.laws.an_entry_lies_in_the_log.Goals as goal

pub returns-clause-from : goal.returns-clause-from
returns-clause-from c = entry-from

pub returns-clause-to : goal.returns-clause-to
returns-clause-to c = entry-to

pub returns-clause-within : goal.returns-clause-within
returns-clause-within c = entry-within

pub returns-clause-block : goal.returns-clause-block
returns-clause-block c = entry-block

pub returns-clause-past_the_slots : goal.returns-clause-past_the_slots
returns-clause-past_the_slots c = entry-past_slots
