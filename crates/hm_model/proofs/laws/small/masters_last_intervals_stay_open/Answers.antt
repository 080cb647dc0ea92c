use Rattle.hm_model.proofs.OpenEndLemmas.{last-open, open-later, open-made}
use Rattle.hm_model.proofs.laws.small.masters_last_intervals_stay_open.Goals as goal

pub returns-clause-stays : goal.returns-clause-stays
returns-clause-stays c = open-later

pub returns-clause-made : goal.returns-clause-made
returns-clause-made c = open-made

pub returns-clause-last : goal.returns-clause-last
returns-clause-last c = last-open
