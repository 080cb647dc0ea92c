use Rattle.hm_freemap.specs.Stand.{home_of}
use Rattle.hm_freemap.proofs.ExtentLemmas.{held_extent, placed_extent}
use Rattle.hm_freemap.proofs.GoodLemmas.{good_block}
use Rattle.hm_freemap.proofs.laws.each_extent_is_held_where_the_freemap_stands.Goals as goal

pub returns-clause-good : goal.returns-clause-good
returns-clause-good c bigblocks append maps states stand r live =
    good_block bigblocks append maps states stand (home_of r) (placed_extent bigblocks append r maps states stand live).pool

pub returns-clause-held : goal.returns-clause-held
returns-clause-held c bigblocks append maps states stand r live = held_extent bigblocks append r maps states stand live
