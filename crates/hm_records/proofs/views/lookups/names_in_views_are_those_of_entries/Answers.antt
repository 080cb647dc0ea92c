use Rattle.hm_records.specs.Laws.{counts_of}
use Rattle.hm_records.proofs.LookupLemmas.{has_none_lacks, lacks_has_none, lacks_none, named_is_triple, none_lacks, triple_is_named}
use Rattle.hm_records.proofs.views.lookups.names_in_views_are_those_of_entries.Goals as goal

pub returns-clause-some : goal.returns-clause-some
returns-clause-some c = λ shown pfs tree directory object name has.
    (named_is_triple pfs tree (counts_of shown) has directory name object, triple_is_named pfs tree (counts_of shown) has directory name object)

pub returns-clause-none : goal.returns-clause-none
returns-clause-none c = λ shown pfs tree directory name has.
    (none_lacks pfs tree (counts_of shown) has directory name, lacks_none pfs tree (counts_of shown) has directory name)

pub returns-clause-has : goal.returns-clause-has
returns-clause-has c = λ shown pfs tree directory name has. (
  has_none_lacks pfs tree (counts_of shown) has directory name,
  lacks_has_none pfs tree
      (counts_of shown) has directory name,
)
