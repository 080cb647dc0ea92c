use Rattle.hm_retain.proofs.SameLemmas.{not_retention}
use Rattle.hm_retain.proofs.laws.no_cut_is_both.Goals as goal

pub returns : goal.returns
returns c set ids from count cut many is = not_retention _ count cut many is
