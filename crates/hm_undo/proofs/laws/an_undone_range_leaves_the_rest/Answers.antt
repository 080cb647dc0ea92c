use Rattle.hm_undo.proofs.RecoveredLemmas.{undone-counts, undone-leaves, undone-past}
use Rattle.hm_undo.proofs.laws.an_undone_range_leaves_the_rest.Goals as goal

pub returns-clause-header : goal.returns-clause-header
returns-clause-header c = λ image header slot olds counts range. undone-counts image header slot counts olds range

pub returns-clause-others : goal.returns-clause-others
returns-clause-others c = λ image header slot olds counts range. undone-leaves image header slot counts olds range

pub returns-clause-past_the_slots : goal.returns-clause-past_the_slots
returns-clause-past_the_slots c = λ image header slot olds counts range. undone-past image header slot counts olds range
