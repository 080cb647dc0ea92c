use Rattle.hm_records.proofs.ChangeLemmas.{closes_from}
use Rattle.hm_records.proofs.views.changes.closed_versions_count_no_more.Goals as goal

pub returns : goal.returns
returns c = closes_from
