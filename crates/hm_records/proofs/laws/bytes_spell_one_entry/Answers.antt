use Rattle.hm_records.proofs.EntryLemmas.{one_entry}
use Rattle.hm_records.proofs.laws.bytes_spell_one_entry.Goals as goal

pub returns : goal.returns
returns c = one_entry
