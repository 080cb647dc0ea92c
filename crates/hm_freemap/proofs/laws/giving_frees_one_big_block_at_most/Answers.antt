use Rattle.hm_freemap.proofs.SpaceLemmas.{given_free, given_more, given_most, given_there}
use Rattle.hm_freemap.proofs.laws.giving_frees_one_big_block_at_most.Goals as goal

pub returns : goal.returns
returns c bigblocks append r states = record {
  kept = given_free append r states;
  only = given_there append r states;
  never_falls = given_more bigblocks append r states;
  one_more = given_most bigblocks append r states;
}
