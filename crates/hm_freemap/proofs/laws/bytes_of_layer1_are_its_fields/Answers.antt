use Rattle.hm_freemap.proofs.SpellLemmas.{layer1_back, layer1_held}
use Rattle.hm_freemap.proofs.laws.bytes_of_layer1_are_its_fields.Goals as goal

pub returns-clause-fields : goal.returns-clause-fields
returns-clause-fields c = layer1_back

pub returns-clause-held : goal.returns-clause-held
returns-clause-held c = layer1_held
