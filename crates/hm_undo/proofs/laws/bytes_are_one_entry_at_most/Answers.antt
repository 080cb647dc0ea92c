use Rattle.hm_undo.proofs.EntryLemmas.{entry-is-one}
use Rattle.hm_undo.proofs.laws.bytes_are_one_entry_at_most.Goals as goal

pub returns : goal.returns
returns c = entry-is-one
