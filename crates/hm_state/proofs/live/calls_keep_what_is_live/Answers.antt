use Rattle.hm_state.proofs.LiveLemmas.{calls_keep_live}
use Rattle.hm_state.proofs.live.calls_keep_what_is_live.Goals as goal

pub returns : goal.returns
returns c = λ h old new root last s t opens same was is told. calls_keep_live h old new root last opens same s t was is told
