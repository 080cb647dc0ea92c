use Rattle.hm_records.specs.Laws.{counts_of}
use Rattle.hm_records.proofs.ViewLemmas.{one_objects, one_triples}
use Rattle.hm_records.proofs.views.untouched.entries_and_inodes_need_not_fit.Goals as goal

pub returns-clause-triples : goal.returns-clause-triples
returns-clause-triples c = λ one other pfs t u agree is is'. one_triples pfs t u (counts_of one) (counts_of other) agree is is'

pub returns-clause-objects : goal.returns-clause-objects
returns-clause-objects c = λ one other pfs t u agree is is'. one_objects pfs t u (counts_of one) (counts_of other) agree is is'
