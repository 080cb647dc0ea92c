use Rattle.hm_calls_bench.proofs.FreshLemmas.{made_ready}
use Rattle.hm_calls_bench.proofs.volume.Volume.fresh.Goals as goal

pub returns : goal.returns
returns g c = made_ready (g.T.HasElements.elements c.put-2.new.store) (g.T.HasRoom.extents c.put-2.new.store) 3 c.in_ok-put-2.ensures
