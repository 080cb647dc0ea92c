use Rattle.hm_model.proofs.LastingPastLemmas.{at-lasting, sync_rises}
use Rattle.hm_model.proofs.laws.endings.slaves_keep_their_past_for_good.Goals as goal

pub returns-clause-views : goal.returns-clause-views
returns-clause-views c = at-lasting

pub returns-clause-sync_end : goal.returns-clause-sync_end
returns-clause-sync_end c = sync_rises
