use Rattle.hm_records.specs.Laws.{counts_of}
use Rattle.hm_records.proofs.EntryChangeLemmas.{first_shown, later_hidden, new_shown}
use Rattle.hm_records.proofs.views.names.new_entries_are_shown_where_they_come_first.Goals as goal

pub returns-clause-new : goal.returns-clause-new
returns-clause-new c = λ old new pfs tree directory key entry has gets lacks. new_shown pfs directory key entry (counts_of old)
    (counts_of new) gets tree has lacks

pub returns-clause-first : goal.returns-clause-first
returns-clause-first c = λ old new pfs tree directory key entry has gets first. first_shown pfs directory key entry (counts_of old)
    (counts_of new) gets tree has first

pub returns-clause-later : goal.returns-clause-later
returns-clause-later c = λ old new pfs tree directory key entry has gets earlier. later_hidden pfs directory key entry (counts_of old)
    (counts_of new) tree gets has earlier
