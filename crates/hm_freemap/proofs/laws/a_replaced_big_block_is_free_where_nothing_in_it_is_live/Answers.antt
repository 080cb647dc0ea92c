use Rattle.hm_freemap.proofs.SpaceLemmas.{replaced_free}
use Rattle.hm_freemap.proofs.laws.a_replaced_big_block_is_free_where_nothing_in_it_is_live.Goals as goal

pub returns : goal.returns
returns c bigblocks zones held append then maps now states stand admitted k low lacks unused =
    replaced_free bigblocks zones held append then maps now states stand admitted k low lacks unused
