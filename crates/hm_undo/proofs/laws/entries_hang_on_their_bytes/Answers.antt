use Rattle.hm_undo.proofs.RangeLemmas.{entry-same, range-same}
use Rattle.hm_undo.proofs.laws.entries_hang_on_their_bytes.Goals as goal

pub returns-clause-entry : goal.returns-clause-entry
returns-clause-entry c = entry-same

pub returns-clause-range : goal.returns-clause-range
returns-clause-range c = range-same
