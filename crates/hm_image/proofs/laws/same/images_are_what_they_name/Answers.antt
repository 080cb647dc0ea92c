use Rattle.hm_image.proofs.NamedLemmas.{sound_named, stands_named}
use Rattle.hm_image.proofs.laws.same.images_are_what_they_name.Goals as goal

pub returns-clause-sound : goal.returns-clause-sound
returns-clause-sound c = sound_named

pub returns-clause-stands : goal.returns-clause-stands
returns-clause-stands c = stands_named
