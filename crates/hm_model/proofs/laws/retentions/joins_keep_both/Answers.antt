use Rattle.std.proofs.Common.{ℕ, ◌<◌, ◌≤◌}
use Rattle.std.specs.Prelude.{◌⊎◌}
use Rattle.hm_types.specs.Intervals.{Keeps}
use Rattle.hm_model.specs.Cut.{join}
use Rattle.hm_model.proofs.RetentionLemmas.{IsIntervals-join, IsJoin-join, alone}
use Rattle.hm_model.proofs.laws.retentions.joins_keep_both.Goals as goal

pub returns-clause-keeps : goal.returns-clause-keeps
returns-clause-keeps c = IsJoin-join

pub returns-clause-intervals : goal.returns-clause-intervals
returns-clause-intervals c = IsIntervals-join

pub returns-clause-alone : goal.returns-clause-alone
returns-clause-alone c retention other begin end list rise rise_other rise_list is =
    alone (λ (id : ℕ). Keeps retention id ⊎ (Keeps other id × (begin < id) × (id ≤ end))) list (join retention other begin end) rise_list
    (IsIntervals-join retention other begin end rise rise_other) is (IsJoin-join retention other begin end)
