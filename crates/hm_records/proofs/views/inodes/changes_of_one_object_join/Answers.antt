use Rattle.hm_records.specs.Laws.{counts_of}
use Rattle.hm_records.proofs.SubjectLemmas.{but_object_twice}
use Rattle.hm_records.proofs.views.inodes.changes_of_one_object_join.Goals as goal

pub returns : goal.returns
returns c = λ old mid new pfs obj first second. record {
  agree = but_object_twice pfs obj (counts_of old) (counts_of mid) (counts_of new) first.agree second.agree;
  settled = second.settled;
}
