use Rattle.hm_records.specs.Laws.{counts_of}
use Rattle.hm_records.proofs.ViewLemmas.{view_one}
use Rattle.hm_records.proofs.views.contents.views_are_one.Goals as goal

pub returns : goal.returns
returns c = λ shown pfs one other is is'. view_one (counts_of shown) pfs one other is is'
