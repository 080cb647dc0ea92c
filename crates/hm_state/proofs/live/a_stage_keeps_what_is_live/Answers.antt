use Rattle.hm_state.proofs.LiveLemmas.{stage_keeps_live}
use Rattle.hm_state.proofs.live.a_stage_keeps_what_is_live.Goals as goal

pub returns : goal.returns
returns c = λ f h root last volume result s t ready size held does. stage_keeps_live f h ready size root last volume held result s t does
