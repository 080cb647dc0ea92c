use Rattle.hm_node.proofs.LawLemmas.{page_spells_one_node}
use Rattle.hm_node.proofs.laws.page_spells_one_node.Goals as goal

pub returns : goal.returns
returns c = page_spells_one_node
