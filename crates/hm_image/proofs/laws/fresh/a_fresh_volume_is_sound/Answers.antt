use Rattle.hm_image.proofs.FreshLemmas.{fresh_is_sound}
use Rattle.hm_image.proofs.laws.fresh.a_fresh_volume_is_sound.Goals as goal

pub returns : goal.returns
returns c = fresh_is_sound
