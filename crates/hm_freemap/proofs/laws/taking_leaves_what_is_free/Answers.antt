use Rattle.hm_freemap.proofs.SpaceLemmas.{taken_blocks, taken_free}
use Rattle.hm_freemap.proofs.laws.taking_leaves_what_is_free.Goals as goal

pub returns : goal.returns
returns c bigblocks append maps states stand zone len at now some takes = record {
  each = taken_free bigblocks append maps states stand zone len at now some takes;
  number = taken_blocks bigblocks append maps states stand zone len at now some takes;
}
