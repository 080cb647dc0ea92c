use Rattle.std.proofs.Common.{refl}
use Rattle.hm_model.specs.After.{upgraded}
use Rattle.hm_model.proofs.KeptPastLemmas.{at-upgrade, system-upgrade}
use Rattle.hm_model.proofs.laws.endings.upgrades_leave_the_past.Goals as goal

pub returns-clause-views : goal.returns-clause-views
returns-clause-views c state event o s id ends found = at-upgrade state event o s id ends found

pub returns-clause-system : goal.returns-clause-system
returns-clause-system c state event o s ends found = (upgraded s, system-upgrade state event o s ends found, refl, refl, refl)
