use Rattle.hm_core.proofs.UpToLemmas.{more_drawn, up_to_all, up_to_stays}
use Rattle.hm_core.proofs.laws.events_of_before_stay.Goals as goal

pub returns-clause-stay : goal.returns-clause-stay
returns-clause-stay c = λ last id history events more entry is is_more own before.
    up_to_stays last id events more entry (more_drawn history events more entry is is_more) own before

pub returns-clause-all : goal.returns-clause-all
returns-clause-all c = up_to_all
