use Rattle.hm_freemap.proofs.FreeLemmas.{free_is_unused, free_same, rank_same}
use Rattle.hm_freemap.proofs.laws.free_blocks_are_those_of_the_states.Goals as goal

pub returns-clause-each : goal.returns-clause-each
returns-clause-each c bigblocks append maps states stand block is = free_is_unused bigblocks append maps states block stand is

pub returns-clause-number : goal.returns-clause-number
returns-clause-number c bigblocks append maps states stand = free_same bigblocks append maps states stand

pub returns-clause-order : goal.returns-clause-order
returns-clause-order c bigblocks append maps states stand rank block here = rank_same bigblocks append maps states stand rank block here
