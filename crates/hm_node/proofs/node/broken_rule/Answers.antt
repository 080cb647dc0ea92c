use Rattle.hm_node.proofs.ReadyLemmas.{none_broken}
use Rattle.hm_node.proofs.node.broken_rule.Goals as goal

pub returns-in-1-clause-none : goal.returns-in-1-clause-none
returns-in-1-clause-none c = none_broken c.args.page.now c.broken_rule.result c.read-head.ensures.sized c.broken_rule.ensures.none

pub returns-in-2-clause-none : goal.returns-in-2-clause-none
returns-in-2-clause-none c = none_broken c.args.page.now c.broken_rule-in-2.result c.read-head.ensures.sized c.broken_rule-in-2.ensures.none
