use Rattle.std.proofs.Common.{ℕ, ◌≤◌, ap, subst, sym}
use Rattle.hm_node.specs.Inner.{AreChildPlaces}
use Rattle.hm_node.specs.declared.head.Head.{Head}
use Rattle.hm_node.proofs.InnerEditLemmas.{inner_bytes}
use Rattle.hm_search.proofs.visits.child_below.Goals as goal

pub child_at-requires-clause-few : goal.child_at-requires-clause-few
child_at-requires-clause-few c =
    subst (λ (n : ℕ). n ≤ 62) (sym (ap (λ (h : Head). h.count) c.read.ensures.value)) (inner_bytes c.args.page.now c.requires.inner).some.1

pub child_at-requires-clause-places : goal.child_at-requires-clause-places
child_at-requires-clause-places c =
    subst (AreChildPlaces c.args.page.now) (sym (ap (λ (h : Head). h.count) c.read.ensures.value))
    (inner_bytes c.args.page.now c.requires.inner).places
