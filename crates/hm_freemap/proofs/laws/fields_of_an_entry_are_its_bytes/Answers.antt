use Rattle.hm_freemap.proofs.SpellLemmas.{entry_fits, entry_spelled}
use Rattle.hm_freemap.proofs.laws.fields_of_an_entry_are_its_bytes.Goals as goal

pub returns-clause-bytes : goal.returns-clause-bytes
returns-clause-bytes c = entry_spelled

pub returns-clause-fits : goal.returns-clause-fits
returns-clause-fits c = entry_fits
