use Rattle.hm_model.proofs.IntervalLemmas.{held_is, is_held}
use Rattle.hm_model.proofs.laws.retentions.walks_find_what_is_kept.Goals as goal

pub returns : goal.returns
returns c volume pfs id s is = rw is (λ found. held_is s.retention id found, λ kept. is_held s.retention id kept)
