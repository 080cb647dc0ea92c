use Rattle.hm_records.specs.Laws.{counts_of}
use Rattle.hm_records.proofs.MadeLemmas.{bytes_alone, target_alone}
use Rattle.hm_records.proofs.views.untouched.targets_and_bytes_need_their_inodes.Goals as goal

pub returns-clause-target : goal.returns-clause-target
returns-clause-target c = λ old new pfs obj now tree has overrides not. target_alone pfs obj now tree (counts_of old) (counts_of new) has overrides not

pub returns-clause-bytes : goal.returns-clause-bytes
returns-clause-bytes c = λ old new pfs obj end now tree has overrides not. bytes_alone pfs obj end now tree (counts_of old) (counts_of new) has overrides not
