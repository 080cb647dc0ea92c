use Rattle.hm_image.proofs.SoundPlacesLemmas.{sound_places}
use Rattle.hm_image.proofs.laws.sound.payloads_of_a_sound_image_have_places.Goals as goal

pub returns : goal.returns
returns c = sound_places
