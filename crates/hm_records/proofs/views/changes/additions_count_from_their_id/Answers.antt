use Rattle.hm_records.proofs.ChangeLemmas.{adds_from}
use Rattle.hm_records.proofs.views.changes.additions_count_from_their_id.Goals as goal

pub returns : goal.returns
returns c = adds_from
