use Rattle.hm_load.proofs.OnceLemmas.{whole_is_undamaged}
use Rattle.hm_load.proofs.laws.a_whole_volume_has_no_damage.Goals as goal

pub returns : goal.returns
returns c = whole_is_undamaged
