use Rattle.hm_image.specs.Image.{pages_of, references_from}
use Rattle.hm_image.proofs.ApartLemmas.{no_two_overlap}
use Rattle.hm_image.proofs.laws.sound.extents_of_a_sound_image_are_apart.Goals as goal

pub returns-clause-list : goal.returns-clause-list
returns-clause-list c = no_two_overlap

pub returns-clause-image : goal.returns-clause-image
returns-clause-image c = λ image header r s sound. no_two_overlap (references_from (pages_of image) header.root) r s sound.extents.apart
