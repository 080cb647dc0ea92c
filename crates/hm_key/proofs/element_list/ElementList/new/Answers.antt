use Rattle.hm_key.proofs.ElementLemmas.{content_none}
use Rattle.hm_key.proofs.element_list.ElementList.new.Goals as goal

pub invariant_of-result : goal.invariant_of-result
invariant_of-result c = record { content = rw c.new.ensures.items content_none }
