use Rattle.hm_search.proofs.ReachLemmas.{reached_level, not_below_itself}
use Rattle.hm_search.proofs.LawLemmas.{height_most}
use Rattle.hm_search.proofs.laws.nodes_below_are_lower.Goals as goal

pub returns-clause-height : goal.returns-clause-height
returns-clause-height c = height_most

pub returns-clause-level : goal.returns-clause-level
returns-clause-level c = reached_level

pub returns-clause-itself : goal.returns-clause-itself
returns-clause-itself c = not_below_itself
