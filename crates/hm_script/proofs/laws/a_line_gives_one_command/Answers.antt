use Rattle.hm_script.proofs.ScriptLemmas.{gives_is_one}
use Rattle.hm_script.proofs.laws.a_line_gives_one_command.Goals as goal

pub returns : goal.returns
returns c = gives_is_one
