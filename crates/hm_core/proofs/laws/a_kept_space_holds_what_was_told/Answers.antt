use Rattle.hm_core.proofs.OpenLemmas.{kept_holds}
use Rattle.hm_core.proofs.laws.a_kept_space_holds_what_was_told.Goals as goal

pub returns : goal.returns
returns c = λ old new root pages keeps tree. kept_holds old new root pages keeps tree
