use Rattle.std.proofs.Common.{arith}
use Rattle.hm_search.proofs.PageLemmas.{leaf_order, leaf_fits_bounds, inner_fits_bounds, leaf_few, inner_few}
use Rattle.hm_search.proofs.subtree.Subtree.fits_bounds.Goals as goal

pub holds_all-requires-clause-order : goal.holds_all-requires-clause-order
holds_all-requires-clause-order c =
    leaf_order c.args.page.now c.args.head.now c.from-count.result c.requires.head c.if-head-eq-LEAF.true c.from-count.ensures c.requires.order

pub holds_all-requires-clause-few : goal.holds_all-requires-clause-few
holds_all-requires-clause-few c =
    omega (arith, c.from-count.ensures, leaf_few c.args.page.now c.args.head.now c.requires.head c.if-head-eq-LEAF.true c.requires.count)

pub bounds_all-requires : goal.bounds_all-requires
bounds_all-requires c = omega (arith, c.from-count.ensures, inner_few c.args.page.now c.args.head.now c.requires.head c.if-head-eq-LEAF.false c.requires.count)

pub returns-then-head-eq-LEAF : goal.returns-then-head-eq-LEAF
returns-then-head-eq-LEAF c =
    let fits = leaf_fits_bounds c.args.self.now.left c.args.self.now.right c.args.page.now c.args.head.now c.from-count.result c.requires.head
    c.from-count.ensures c.if-head-eq-LEAF.true in
    (λ is. fits.0 (c.holds_all.ensures.0 is), λ f. c.holds_all.ensures.1 (fits.1 f))

pub returns-else-head-eq-LEAF : goal.returns-else-head-eq-LEAF
returns-else-head-eq-LEAF c =
    let fits = inner_fits_bounds c.args.self.now.left c.args.self.now.right c.args.page.now c.args.head.now c.from-count.result c.requires.head
    c.from-count.ensures c.if-head-eq-LEAF.false c.requires.count in
    (λ is. fits.0 (c.bounds_all.ensures.0 is), λ f. c.bounds_all.ensures.1 (fits.1 f))
