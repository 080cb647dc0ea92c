use Rattle.hm_records.proofs.ChangeLemmas.{replaces_from}
use Rattle.hm_records.proofs.views.changes.replaced_versions_count_no_more.Goals as goal

pub returns : goal.returns
returns c = λ e es es' t is late. replaces_from e es is.between es' t is.below is.closes is.adds is.unclosed late
