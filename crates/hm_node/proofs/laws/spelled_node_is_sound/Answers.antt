use Rattle.hm_node.proofs.NodeLemmas.{spells_kept}
use Rattle.hm_node.proofs.laws.spelled_node_is_sound.Goals as goal

pub returns : goal.returns
returns c = spells_kept
