use Rattle.std.proofs.Common.{◌+◌, arith}
use Rattle.hm_records.proofs.CountsLemmas.{closed_none, record_counts, record_one}
use Rattle.hm_records.proofs.views.contents.records_are_what_counts_last.Goals as goal

pub returns-clause-one : goal.returns-clause-one
returns-clause-one c = record_one

pub returns-clause-closed : goal.returns-clause-closed
returns-clause-closed c = closed_none

pub returns-clause-counts : goal.returns-clause-counts
returns-clause-counts c = λ es pfs t bytes below. record_counts es pfs (t + 1) t bytes below (omega arith)
