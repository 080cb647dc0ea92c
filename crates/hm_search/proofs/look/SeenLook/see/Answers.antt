use Rattle.hm_search.proofs.HeldLemmas.{leaf_held, inner_held}
use Rattle.hm_search.proofs.LookLemmas.{inner_some}
use Rattle.hm_search.proofs.look.SeenLook.see.Goals as goal

pub see_leaf-requires-clause-few : goal.see_leaf-requires-clause-few
see_leaf-requires-clause-few c = (leaf_held c.args.page.now c.read-head.result c.read-head.ensures.value c.if-head-eq-LEAF.true c.requires).0

pub see_leaf-requires-clause-places : goal.see_leaf-requires-clause-places
see_leaf-requires-clause-places c = (leaf_held c.args.page.now c.read-head.result c.read-head.ensures.value c.if-head-eq-LEAF.true c.requires).1

pub see_inner-requires-clause-some : goal.see_inner-requires-clause-some
see_inner-requires-clause-some c = inner_some c.args.page.now c.read-head.result c.read-head.ensures.value c.if-head-eq-LEAF.false c.requires.count

pub see_inner-requires-clause-few : goal.see_inner-requires-clause-few
see_inner-requires-clause-few c = (inner_held c.args.page.now c.read-head.result c.read-head.ensures.value c.if-head-eq-LEAF.false c.requires).0

pub see_inner-requires-clause-places : goal.see_inner-requires-clause-places
see_inner-requires-clause-places c = (inner_held c.args.page.now c.read-head.result c.read-head.ensures.value c.if-head-eq-LEAF.false c.requires).1
