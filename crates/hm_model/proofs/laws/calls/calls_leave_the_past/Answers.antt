use Rattle.hm_model.specs.Call.{own_id}
use Rattle.hm_model.specs.Change.{change}
use Rattle.hm_model.proofs.ChangeLemmas.{Grows-change}
use Rattle.hm_model.proofs.GrowthLemmas.{at-grown}
use Rattle.hm_model.proofs.laws.calls.calls_leave_the_past.Goals as goal

pub returns : goal.returns
returns c call pfs id before = at-grown call.volume (change call) pfs id (own_id call) before (Grows-change call pfs)
