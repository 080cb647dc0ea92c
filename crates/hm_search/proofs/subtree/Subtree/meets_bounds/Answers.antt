use Rattle.std.proofs.Common.{arith}
use Rattle.hm_search.proofs.HeldLemmas.{leaf_meets_bounds, inner_meets_bounds}
use Rattle.hm_search.proofs.PageLemmas.{inner_fits_bounds, leaf_few, inner_few}
use Rattle.hm_search.proofs.subtree.Subtree.meets_bounds.Goals as goal

pub holds_ends-requires : goal.holds_ends-requires
holds_ends-requires c = omega (arith, c.from-count.ensures, leaf_few c.args.page.now c.args.head.now c.requires.head c.if-head-eq-LEAF.true c.requires.count)

pub bounds_all-requires : goal.bounds_all-requires
bounds_all-requires c = omega (arith, c.from-count.ensures, inner_few c.args.page.now c.args.head.now c.requires.head c.if-head-eq-LEAF.false c.requires.count)

pub returns-then-head-eq-LEAF : goal.returns-then-head-eq-LEAF
returns-then-head-eq-LEAF c =
    let meets = leaf_meets_bounds c.args.self.now.left c.args.self.now.right c.args.page.now c.args.head.now c.from-count.result c.requires.head
    c.from-count.ensures c.if-head-eq-LEAF.true in
    (λ is. meets.0 (c.holds_ends.ensures.0 is), λ f. c.holds_ends.ensures.1 (meets.1 f))

pub returns-else-head-eq-LEAF : goal.returns-else-head-eq-LEAF
returns-else-head-eq-LEAF c =
    let fits = inner_fits_bounds c.args.self.now.left c.args.self.now.right c.args.page.now c.args.head.now c.from-count.result c.requires.head
    c.from-count.ensures c.if-head-eq-LEAF.false c.requires.count in
    let meets = inner_meets_bounds c.args.self.now.left c.args.self.now.right c.args.page.now c.args.head.now c.requires.head c.if-head-eq-LEAF.false in
    (λ is. meets.0 (fits.0 (c.bounds_all.ensures.0 is)), λ f. c.bounds_all.ensures.1 (fits.1 (meets.1 f)))
