use Rattle.hm_search.proofs.HeldLemmas.{leaf_held}
use Rattle.hm_search.proofs.near.first_within.Goals as goal

pub see_leaf-seen-requires-clause-few : goal.see_leaf-seen-requires-clause-few
see_leaf-seen-requires-clause-few c = (leaf_held c.args.page.now c.read-head.result c.read-head.ensures.value c.if-head-ne-LEAF.false c.requires).0

pub see_leaf-seen-requires-clause-places : goal.see_leaf-seen-requires-clause-places
see_leaf-seen-requires-clause-places c = (leaf_held c.args.page.now c.read-head.result c.read-head.ensures.value c.if-head-ne-LEAF.false c.requires).1
