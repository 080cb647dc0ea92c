use Rattle.hm_shell.proofs.AloneLemmas.{answers_out}
use Rattle.hm_shell.proofs.laws.lines_by_themselves_print_a_run.Goals as goal

pub returns : goal.returns
returns c end history lines are h = answers_out end history lines are h
