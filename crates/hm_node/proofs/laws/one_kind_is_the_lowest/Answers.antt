use Rattle.hm_node.proofs.LawLemmas.{one_kind_is_the_lowest}
use Rattle.hm_node.proofs.laws.one_kind_is_the_lowest.Goals as goal

pub returns : goal.returns
returns c = one_kind_is_the_lowest
