use Rattle.std.proofs.Common.{◌-◌, inl, inr, arith}
use Rattle.std.proofs.lemmas.Bool.{cases_lt}
use Rattle.hm_search.proofs.HeldLemmas.{inside_at, at_inside}
use Rattle.hm_search.proofs.PageLemmas.{inside_places, places_inside, ends_inside}
use Rattle.hm_search.proofs.subtree.Subtree.holds_all.Goals as goal

pub returns : goal.returns
returns c =
    let left = c.args.self.now.left in
    let right = c.args.self.now.right in
    let page = c.args.page.now in
    let count = c.args.count in (
      λ is.
          let ends = c.holds_ends.ensures.0 is in
          elim (cases_lt 0 count) [
            | inl some ↦ ends_inside left right page count some c.requires.order (at_inside left right page count 0 some ends.0)
                (at_inside left right page count (count - 1) (omega arith) ends.1)
            | inr none ↦ inside_places left right page count (λ k low. absurd (omega arith))
          ],
      λ all. c.holds_ends.ensures.1 (
        inside_at left right page count 0 (λ low. places_inside left right page count all 0 low),
        inside_at left right page count (count - 1) (λ low. places_inside left right page count all (count - 1) low),
      ),
    )
