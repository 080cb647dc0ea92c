use Rattle.hm_model.proofs.MasterLemmas.{shown-legal}
use Rattle.hm_model.proofs.laws.masters.masters_have_what_was_done.Goals as goal

pub returns : goal.returns
returns c = shown-legal
