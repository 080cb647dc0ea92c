use Rattle.std.proofs.Common.{ℕ, ◌≤◌, subst, sym, le-leb, leb-true}
use Rattle.hm_search.proofs.PageLemmas.{leaf_fits_count, inner_fits_count}
use Rattle.hm_search.proofs.subtree.Subtree.fits_count.Goals as goal

pub returns-in-Some : goal.returns-in-Some
returns-in-Some c =
    let fits = leaf_fits_count c.args.page.now c.args.head.now c.in-Some.field-0 c.requires c.if-head-eq-LEAF.true in
    (λ is. rw c.in-Some.is (fits.0 (leb-true 1 c.args.head.now.count is)), λ f. le-leb 1 c.args.head.now.count (fits.1 (rw c.in-Some.is at f)))

pub returns-in-Some-2 : goal.returns-in-Some-2
returns-in-Some-2 c =
    let fits = inner_fits_count c.args.page.now c.args.head.now c.in-Some.field-0 c.requires c.if-head-eq-LEAF.false in
    let count = c.from.ensures in (
      λ is. rw c.in-Some.is (fits.0 (subst (λ (n : ℕ). 16 ≤ n) count (leb-true 16 c.from.result is))),
      λ f. le-leb 16 c.from.result
          (subst (λ (n : ℕ). 16 ≤ n) (sym count) (fits.1 (rw c.in-Some.is at f))),
    )
