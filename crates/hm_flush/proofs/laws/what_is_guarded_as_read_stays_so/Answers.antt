use Rattle.hm_flush.proofs.ReadLemmas.{read-on}
use Rattle.hm_flush.proofs.laws.what_is_guarded_as_read_stays_so.Goals as goal

pub returns : goal.returns
returns c = read-on
