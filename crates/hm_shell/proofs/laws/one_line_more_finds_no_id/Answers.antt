use Rattle.hm_shell.proofs.AloneMoreLemmas.{answers_spent}
use Rattle.hm_shell.proofs.laws.one_line_more_finds_no_id.Goals as goal

pub returns : goal.returns
returns c lines history line end later greatest h = answers_spent lines history line later end greatest h
