use Rattle.hm_image.proofs.laws.sound.elements_of_a_sound_image_are_in_order.Goals as goal

pub returns : goal.returns
returns c = λ image header sound. c.elements_are_in_order.ensures.content _ _ _ _ sound.tree.tree
