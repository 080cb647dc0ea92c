use Rattle.hm_core.proofs.KnownLemmas.{volume_each, volume_known}
use Rattle.hm_core.proofs.laws.ids_of_a_volume_are_known.Goals as goal

pub returns-clause-each : goal.returns-clause-each
returns-clause-each c = volume_each

pub returns-clause-tested : goal.returns-clause-tested
returns-clause-tested c = volume_known
