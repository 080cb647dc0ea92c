use Rattle.hm_node.proofs.SameLemmas.{node_has_one_page}
use Rattle.hm_node.proofs.laws.node_has_one_page.Goals as goal

pub returns : goal.returns
returns c = node_has_one_page
