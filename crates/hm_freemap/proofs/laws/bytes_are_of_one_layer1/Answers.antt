use Rattle.hm_freemap.proofs.SpellLemmas.{layer1_alone}
use Rattle.hm_freemap.proofs.laws.bytes_are_of_one_layer1.Goals as goal

pub returns : goal.returns
returns c = layer1_alone
