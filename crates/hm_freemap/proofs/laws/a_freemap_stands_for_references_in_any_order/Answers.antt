use Rattle.hm_freemap.proofs.OrderLemmas.{current_reordered, stands_reordered}
use Rattle.hm_freemap.proofs.laws.a_freemap_stands_for_references_in_any_order.Goals as goal

pub returns-clause-all : goal.returns-clause-all
returns-clause-all c bigblocks append maps old new stand committed frozen current =
    stands_reordered bigblocks append maps old new stand committed frozen current

pub returns-clause-current : goal.returns-clause-current
returns-clause-current c bigblocks append maps states stand other current =
    current_reordered bigblocks append maps states stand other current
