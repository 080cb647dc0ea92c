use Rattle.hm_script.proofs.ScriptLemmas.{first_bad_is_one}
use Rattle.hm_script.proofs.laws.first_bad_lines_are_one.Goals as goal

pub returns : goal.returns
returns c = first_bad_is_one
