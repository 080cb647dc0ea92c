use Rattle.hm_image.proofs.WitnessLemmas.{free_counted, free_refused}
use Rattle.hm_image.proofs.laws.refused.other_counts_of_free_bytes_are_refused.Goals as goal

pub returns-clause-counted : goal.returns-clause-counted
returns-clause-counted c = free_counted

pub returns-clause-refused : goal.returns-clause-refused
returns-clause-refused c = free_refused
