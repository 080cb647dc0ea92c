use Rattle.hm_freemap.proofs.SpaceLemmas.{shared_blocks, shared_free}
use Rattle.hm_freemap.proofs.laws.sharing_leaves_what_is_free.Goals as goal

pub returns : goal.returns
returns c bigblocks append r states is = record {
  each = shared_free append r states is;
  number = shared_blocks bigblocks append r states is;
}
