use Rattle.hm_step.proofs.CutLemmas.{cut_stands, present_stands, prune_stands}
use Rattle.hm_step.proofs.SystemLemmas.{of_none}
use Rattle.hm_step.proofs.laws.a_cut_leaves_what_stands.Goals as goal

pub returns-clause-cut : goal.returns-clause-cut
returns-clause-cut c = λ es es' volume pfs s kept stand sets cuts. cut_stands es es' volume pfs s stand kept sets cuts

pub returns-clause-pruned : goal.returns-clause-pruned
returns-clause-pruned c = λ es es' volume pfs s ids stand sets early few. prune_stands es es' volume pfs s stand ids sets early few

pub returns-clause-present : goal.returns-clause-present
returns-clause-present c = λ es es' volume pfs s stand sets. present_stands es es' volume pfs s stand sets

pub returns-clause-absent : goal.returns-clause-absent
returns-clause-absent c = λ volume pfs change none. of_none volume pfs change none
