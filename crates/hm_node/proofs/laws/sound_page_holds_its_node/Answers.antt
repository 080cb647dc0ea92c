use Rattle.hm_node.proofs.LawLemmas.{holds_node}
use Rattle.hm_node.proofs.laws.sound_page_holds_its_node.Goals as goal

pub returns : goal.returns
returns c = holds_node
