use Rattle.hm_core.proofs.WordLemmas.{words_are_read}
use Rattle.hm_core.proofs.laws.every_command_is_read.Goals as goal

pub returns : goal.returns
returns c = words_are_read
