use Rattle.hm_disk.proofs.MomentLemmas.{Each-same}
use Rattle.hm_disk.proofs.laws.a_property_holds_over_a_read.Goals as goal

pub returns : goal.returns
returns g c before after moment same = Each-same _ _ _ moment same
