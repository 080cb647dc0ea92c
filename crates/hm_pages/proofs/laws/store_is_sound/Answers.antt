use Rattle.hm_pages.proofs.SoundLemmas.{sound}
use Rattle.hm_pages.proofs.laws.store_is_sound.Goals as goal

pub returns : goal.returns
returns c = sound c.args.store.now
