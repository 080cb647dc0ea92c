use Rattle.std.proofs.Common.{ap, ◌∙◌}
use Rattle.hm_records.proofs.PfsLemmas.{head_in, head_back}
use Rattle.hm_records.proofs.pfs_record.numbers_in.Goals as goal

pub returns-clause-only : goal.returns-clause-only
returns-clause-only c = λ r is kept same. rw (c.read_u64.ensures, c.read_u64-2.ensures, ← kept) (ap (λ xs. head_in xs r.retention) same ∙ head_back r is)
