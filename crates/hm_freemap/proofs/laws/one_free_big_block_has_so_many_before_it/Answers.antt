use Rattle.hm_freemap.proofs.SpaceLemmas.{same_rank}
use Rattle.hm_freemap.proofs.laws.one_free_big_block_has_so_many_before_it.Goals as goal

pub returns : goal.returns
returns c bigblocks test rank one other here there = same_rank bigblocks test rank one other here there
