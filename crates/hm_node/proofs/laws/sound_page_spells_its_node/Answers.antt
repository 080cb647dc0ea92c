use Rattle.hm_node.proofs.NodeLemmas.{kept_node, kept_spells}
use Rattle.hm_node.proofs.laws.sound_page_spells_its_node.Goals as goal

pub returns-clause-node : goal.returns-clause-node
returns-clause-node c = kept_node

pub returns-clause-page : goal.returns-clause-page
returns-clause-page c = kept_spells
