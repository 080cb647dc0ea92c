use Rattle.hm_image.proofs.SameVolumeLemmas.{sound_same, stands_same}
use Rattle.hm_image.proofs.laws.same.images_are_their_freemaps_and_trees.Goals as goal

pub returns-clause-sound : goal.returns-clause-sound
returns-clause-sound c = λ old new header slot freemap tree counts sound. sound_same old new header freemap tree slot counts sound

pub returns-clause-stands : goal.returns-clause-stands
returns-clause-stands c = λ old new volume stands slot freemap tree counts. stands_same old new volume stands slot counts freemap tree
