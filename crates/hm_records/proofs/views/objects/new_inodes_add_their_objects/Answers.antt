use Rattle.std.proofs.Common.{refl}
use Rattle.hm_records.specs.Laws.{counts_of}
use Rattle.hm_records.proofs.ObjectChangeLemmas.{object_added}
use Rattle.hm_records.proofs.views.objects.new_inodes_add_their_objects.Goals as goal

pub returns : goal.returns
returns c = λ old new pfs tree object has changes none is. object_added pfs object.number.0 tree (counts_of old) (counts_of new) has changes object refl none is
