use Rattle.hm_records.proofs.PfsLemmas.{one_record}
use Rattle.hm_records.proofs.laws.bytes_spell_one_record.Goals as goal

pub returns : goal.returns
returns c = one_record
