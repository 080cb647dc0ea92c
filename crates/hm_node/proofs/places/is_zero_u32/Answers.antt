use Rattle.hm_node.proofs.ZeroLemmas.{zero_test}
use Rattle.hm_node.proofs.places.is_zero_u32.Goals as goal

pub returns : goal.returns
returns c = zero_test c.args.page.now c.args.at 4 c.get_u32.result c.get_u32.ensures
