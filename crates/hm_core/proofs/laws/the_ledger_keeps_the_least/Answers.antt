use Rattle.hm_core.proofs.FloorLemmas.{floor_paid}
use Rattle.hm_core.proofs.LedgerLemmas.{paid_first}
use Rattle.hm_core.proofs.laws.the_ledger_keeps_the_least.Goals as goal

pub returns-clause-begins : goal.returns-clause-begins
returns-clause-begins c = paid_first

pub returns-clause-leaves : goal.returns-clause-leaves
returns-clause-leaves c = λ first spare history room most paid. floor_paid first spare history room most (λ none. paid)
