use Rattle.hm_shell.proofs.AloneMoreLemmas.{answers_more}
use Rattle.hm_shell.proofs.laws.one_line_more_is_answered.Goals as goal

pub returns : goal.returns
returns c lines history more line end next later h adds = answers_more lines history line later end next more h adds
