use Rattle.hm_script.proofs.ScriptLemmas.{no_bad_script}
use Rattle.hm_script.proofs.laws.no_script_has_a_bad_line.Goals as goal

pub returns : goal.returns
returns c = no_bad_script
