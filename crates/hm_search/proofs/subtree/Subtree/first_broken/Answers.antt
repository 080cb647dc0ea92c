use Rattle.std.proofs.Common.{arith}
use Rattle.hm_node.specs.declared.rule.Rule.TheVariants.{Count, Order}
use Rattle.hm_search.proofs.subtree.Subtree.first_broken.Goals as goal

pub fits_bounds-requires-clause-count : goal.fits_bounds-requires-clause-count
fits_bounds-requires-clause-count c = c.requires Count (omega arith)

pub fits_bounds-requires-clause-order : goal.fits_bounds-requires-clause-order
fits_bounds-requires-clause-order c = c.requires Order (omega arith)
