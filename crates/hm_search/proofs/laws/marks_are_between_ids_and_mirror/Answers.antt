use Rattle.hm_search.proofs.MarkLemmas.{mark_most}
use Rattle.hm_search.proofs.LawLemmas.{all_marked}
use Rattle.hm_search.proofs.laws.marks_are_between_ids_and_mirror.Goals as goal

pub returns-clause-most : goal.returns-clause-most
returns-clause-most c = mark_most

pub returns-clause-least : goal.returns-clause-least
returns-clause-least c = all_marked
