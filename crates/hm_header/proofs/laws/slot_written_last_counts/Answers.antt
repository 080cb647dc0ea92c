use Rattle.hm_header.proofs.SlotLemmas.{last_counts}
use Rattle.hm_header.proofs.laws.slot_written_last_counts.Goals as goal

pub returns : goal.returns
returns c = last_counts
