use Rattle.hm_state.proofs.SettledLemmas.{live_settled}
use Rattle.hm_state.proofs.live.what_a_flush_holds_is_settled.Goals as goal

pub returns : goal.returns
returns c = λ f h t committed frozen sound holds. live_settled f h t committed frozen sound holds
