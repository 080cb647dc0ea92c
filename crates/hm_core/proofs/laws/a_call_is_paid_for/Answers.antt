use Rattle.hm_core.proofs.LedgerLemmas.{paid_call}
use Rattle.hm_core.proofs.laws.a_call_is_paid_for.Goals as goal

pub returns : goal.returns
returns g c = paid_call g.T.HasRoom.room g.T.HasRoom.free
