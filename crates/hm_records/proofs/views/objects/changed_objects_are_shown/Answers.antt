use Rattle.std.proofs.Common.{refl}
use Rattle.hm_records.specs.Laws.{counts_of}
use Rattle.hm_records.proofs.ObjectChangeLemmas.{known_changed}
use Rattle.hm_records.proofs.views.objects.changed_objects_are_shown.Goals as goal

pub returns : goal.returns
returns c = λ old new pfs tree held change has changes there keeps is. known_changed pfs held.number.0 tree (counts_of old)
    (counts_of new) has changes change held keeps there refl is
