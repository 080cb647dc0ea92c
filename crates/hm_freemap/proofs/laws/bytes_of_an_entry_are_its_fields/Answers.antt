use Rattle.hm_freemap.proofs.SpellLemmas.{entry_back, entry_held}
use Rattle.hm_freemap.proofs.laws.bytes_of_an_entry_are_its_fields.Goals as goal

pub returns-clause-fields : goal.returns-clause-fields
returns-clause-fields c = entry_back

pub returns-clause-held : goal.returns-clause-held
returns-clause-held c = entry_held
