use Rattle.hm_disk.proofs.MomentLemmas.{Each-now}
use Rattle.hm_disk.proofs.laws.a_property_holds_now.Goals as goal

pub returns : goal.returns
returns g c disk = Each-now (g.D.Disk.told disk) _ (g.D.Disk.left_since disk) (g.met.D.Disk.only_now disk)
