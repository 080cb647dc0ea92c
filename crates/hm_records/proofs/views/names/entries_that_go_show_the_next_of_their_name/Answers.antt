use Rattle.hm_records.specs.Laws.{counts_of}
use Rattle.hm_records.proofs.EntryChangeLemmas.{later_gone, next_shown, only_gone}
use Rattle.hm_records.proofs.views.names.entries_that_go_show_the_next_of_their_name.Goals as goal

pub returns-clause-only : goal.returns-clause-only
returns-clause-only c = λ old new pfs tree directory key entry has loses only. only_gone pfs directory key entry (counts_of old)
    (counts_of new) loses tree has only

pub returns-clause-next : goal.returns-clause-next
returns-clause-next c = λ old new pfs tree directory key entry object has loses next. next_shown pfs directory key entry (counts_of old)
    (counts_of new) loses tree object has next

pub returns-clause-later : goal.returns-clause-later
returns-clause-later c = λ old new pfs tree directory key entry has loses earlier. later_gone pfs directory key entry (counts_of old)
    (counts_of new) loses tree has earlier
