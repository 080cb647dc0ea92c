use Rattle.hm_records.specs.Laws.{counts_of}
use Rattle.hm_records.proofs.ViewLemmas.{view_same}
use Rattle.hm_records.proofs.views.contents.what_counts_decides.Goals as goal

pub returns : goal.returns
returns c = λ old new pfs tree same is. view_same pfs tree (counts_of old) (counts_of new) same is
