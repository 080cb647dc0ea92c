use Rattle.std.proofs.Common.{ℕ, ◌≤◌}
use Rattle.std.specs.Prelude.{◌⊎◌}
use Rattle.hm_types.specs.Intervals.{Keeps}
use Rattle.hm_retain.specs.Retention.{IsListed}
use Rattle.hm_model.specs.Cut.{cut}
use Rattle.hm_model.proofs.RetentionLemmas.{IsCut-cut, IsIntervals-cut, alone, numbers}
use Rattle.hm_model.proofs.laws.retentions.cuts_keep_what_is_listed.Goals as goal

pub returns-clause-keeps : goal.returns-clause-keeps
returns-clause-keeps c = IsCut-cut

pub returns-clause-intervals : goal.returns-clause-intervals
returns-clause-intervals c = IsIntervals-cut

pub returns-clause-alone : goal.returns-clause-alone
returns-clause-alone c retention ids from list rise rise_list is =
    alone (λ (id : ℕ). Keeps retention id × (IsListed ids id ⊎ (from ≤ id))) list (cut retention (numbers ids) from) rise_list
    (IsIntervals-cut retention (numbers ids) from rise) is (IsCut-cut retention ids from)
