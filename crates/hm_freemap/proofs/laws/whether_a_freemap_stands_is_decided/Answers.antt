use Rattle.hm_freemap.proofs.DecideLemmas.{standing_decided}
use Rattle.hm_freemap.proofs.laws.whether_a_freemap_stands_is_decided.Goals as goal

pub returns-clause-passed : goal.returns-clause-passed
returns-clause-passed c bigblocks append maps states is = (standing_decided bigblocks append maps states).0 is

pub returns-clause-passes : goal.returns-clause-passes
returns-clause-passes c bigblocks append maps states stand = (standing_decided bigblocks append maps states).1 stand
