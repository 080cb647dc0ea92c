use Rattle.hm_undo.proofs.LogLemmas.{entries-apart, range-apart}
use Rattle.hm_undo.proofs.laws.entries_share_no_byte.Goals as goal

pub returns-clause-apart : goal.returns-clause-apart
returns-clause-apart c = entries-apart

pub returns-clause-range : goal.returns-clause-range
returns-clause-range c = range-apart
