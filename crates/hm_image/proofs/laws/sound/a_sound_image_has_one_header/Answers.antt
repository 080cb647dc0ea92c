use Rattle.hm_image.proofs.laws.sound.a_sound_image_has_one_header.Goals as goal

pub returns : goal.returns
returns c = λ image one other a b. (c.chosen_header_is_one.ensures _ _ _ one other a.slot b.slot a.counts b.counts).0
