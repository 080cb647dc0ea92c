use Rattle.hm_undo.proofs.EntryLemmas.{broken-is-none}
use Rattle.hm_undo.proofs.laws.broken_bytes_are_no_entry.Goals as goal

pub returns : goal.returns
returns c = broken-is-none
