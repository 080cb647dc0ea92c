use Rattle.hm_model.proofs.MadeLemmas.{shown_made}
use Rattle.hm_model.proofs.laws.made.made_masters_have_what_was_done.Goals as goal

pub returns : goal.returns
returns c = shown_made
