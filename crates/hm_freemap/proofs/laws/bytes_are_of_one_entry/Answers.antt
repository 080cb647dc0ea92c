use Rattle.hm_freemap.proofs.SpellLemmas.{entry_alone}
use Rattle.hm_freemap.proofs.laws.bytes_are_of_one_entry.Goals as goal

pub returns : goal.returns
returns c = entry_alone
