use Rattle.hm_search.proofs.ContentLemmas.{tree_content, elements_some}
use Rattle.hm_search.proofs.LawLemmas.{all_inside}
use Rattle.hm_search.proofs.laws.elements_are_in_order.Goals as goal

pub returns-clause-content : goal.returns-clause-content
returns-clause-content c = tree_content

pub returns-clause-inside : goal.returns-clause-inside
returns-clause-inside c = all_inside

pub returns-clause-some : goal.returns-clause-some
returns-clause-some c = elements_some
