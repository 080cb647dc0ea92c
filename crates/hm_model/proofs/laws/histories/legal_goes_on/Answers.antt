use Rattle.std.proofs.Common.{[], ◌∷◌}
use Rattle.hm_model.proofs.EventLemmas.{IsLegal-beginning, IsLegal-goes_on, MayFollow-last}
use Rattle.hm_model.proofs.laws.histories.legal_goes_on.Goals as goal

pub returns : goal.returns
returns c run events event = (
  λ legal. (IsLegal-beginning run events (event ∷ []) legal, MayFollow-last run events event legal),
  λ both. IsLegal-goes_on run events event both.0 both.1,
)
