use Rattle.hm_records.proofs.PayloadLemmas.{payload_short}
use Rattle.hm_records.proofs.laws.payload_is_neither_empty_nor_large.Goals as goal

pub returns : goal.returns
returns c = payload_short
