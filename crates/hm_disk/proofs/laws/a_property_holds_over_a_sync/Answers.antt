use Rattle.hm_disk.proofs.MomentLemmas.{Each-over}
use Rattle.hm_disk.proofs.laws.a_property_holds_over_a_sync.Goals as goal

pub returns : goal.returns
returns g c before after old new moment early time =
    Each-over _ _ _ _ old new moment early time
