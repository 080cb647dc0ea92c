use Rattle.hm_script.proofs.ScriptLemmas.{script_is_one}
use Rattle.hm_script.proofs.laws.blocks_are_one.Goals as goal

pub returns : goal.returns
returns c = script_is_one
