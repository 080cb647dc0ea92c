use Rattle.std.proofs.Common.{refl}
use Rattle.hm_records.specs.Laws.{counts_of}
use Rattle.hm_records.proofs.LookupLemmas.{found_is_object, object_is_found}
use Rattle.hm_records.proofs.NameLemmas.{same_obj}
use Rattle.hm_records.proofs.views.lookups.objects_in_views_are_those_of_inodes.Goals as goal

pub returns-clause-found : goal.returns-clause-found
returns-clause-found c = λ shown pfs tree number o has is.
    let found = found_is_object pfs tree (counts_of shown) has number o is in
    (found.0, same_obj o.number number found.1)

pub returns-clause-there : goal.returns-clause-there
returns-clause-there c = λ shown pfs tree o has is. object_is_found pfs tree (counts_of shown) has o.number o is refl
