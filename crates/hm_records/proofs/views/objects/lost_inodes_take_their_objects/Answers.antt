use Rattle.hm_records.specs.Laws.{counts_of}
use Rattle.hm_records.proofs.ObjectChangeLemmas.{object_gone}
use Rattle.hm_records.proofs.views.objects.lost_inodes_take_their_objects.Goals as goal

pub returns : goal.returns
returns c = λ old new pfs tree number has changes none. object_gone pfs number.0 tree (counts_of old) (counts_of new) has changes none
