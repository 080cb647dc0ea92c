use Rattle.hm_undo.proofs.RangeLemmas.{entry-written}
use Rattle.hm_undo.proofs.laws.a_written_entry_stands.Goals as goal

pub returns : goal.returns
returns c = entry-written
