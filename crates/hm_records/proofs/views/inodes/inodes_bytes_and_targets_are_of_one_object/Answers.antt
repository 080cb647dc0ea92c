use Rattle.hm_records.specs.Laws.{counts_of}
use Rattle.hm_records.proofs.MadeLemmas.{bytes_changes, inode_changes, target_changes}
use Rattle.hm_records.proofs.views.inodes.inodes_bytes_and_targets_are_of_one_object.Goals as goal

pub returns-clause-inode : goal.returns-clause-inode
returns-clause-inode c = λ old new pfs obj now settled overrides. inode_changes pfs obj now (counts_of old) (counts_of new) settled overrides

pub returns-clause-bytes : goal.returns-clause-bytes
returns-clause-bytes c = λ old new pfs obj end now settled overrides. bytes_changes pfs obj end now (counts_of old) (counts_of new) settled overrides

pub returns-clause-target : goal.returns-clause-target
returns-clause-target c = λ old new pfs obj now settled overrides. target_changes pfs obj now (counts_of old) (counts_of new) settled overrides
