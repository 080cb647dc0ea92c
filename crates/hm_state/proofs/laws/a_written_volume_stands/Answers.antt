use Rattle.hm_state.proofs.WrittenLemmas.{written_stands}
use Rattle.hm_state.proofs.laws.a_written_volume_stands.Goals as goal

pub returns : goal.returns
returns c = written_stands
