use Rattle.hm_node.specs.Node.{node_in}
use Rattle.hm_search.proofs.DamageLemmas.{spells_here}
use Rattle.hm_search.proofs.read.lowest_broken.Goals as goal

pub returns-in-None-first_broken-clause-none : goal.returns-in-None-first_broken-clause-none
returns-in-None-first_broken-clause-none c =
    spells_here c.args.subtree.now c.args.page.now (node_in c.args.page.now) c.in-None.ensures.none c.in-None-first_broken.ensures.none
