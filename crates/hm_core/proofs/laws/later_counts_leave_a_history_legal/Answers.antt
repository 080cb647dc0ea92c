use Rattle.hm_core.specs.History.{setting_of}
use Rattle.hm_core.proofs.CountLemmas.{legal_later}
use Rattle.hm_core.proofs.laws.later_counts_leave_a_history_legal.Goals as goal

pub returns : goal.returns
returns c = λ free start faults faults' opening foreigners events counted legal.
    legal_later (setting_of free start faults opening foreigners) faults' events counted legal
