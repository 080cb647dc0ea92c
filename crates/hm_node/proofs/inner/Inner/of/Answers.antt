use Rattle.std.proofs.Common.{ap, subst, sym, ◌∙◌, ℕ, ◌≤◌, arith}
use Rattle.hm_node.specs.Inner.{AreChildPlaces}
use Rattle.hm_node.specs.declared.head.Head.{Head}
use Rattle.hm_node.proofs.InnerEditLemmas.{inner_bytes}
use Rattle.hm_node.proofs.inner.Inner.of.Goals as goal

pub read_children-requires-clause-count : goal.read_children-requires-clause-count
read_children-requires-clause-count c =
    subst (λ (n : ℕ). n ≤ 62) (sym (c.from-count.ensures ∙ ap (λ (h : Head). h.count) c.read-head.ensures.value))
    (inner_bytes c.args.page.now c.requires).some.1

pub read_children-requires-clause-places : goal.read_children-requires-clause-places
read_children-requires-clause-places c =
    subst (AreChildPlaces c.args.page.now) (sym (c.from-count.ensures ∙ ap (λ (h : Head). h.count) c.read-head.ensures.value))
    (inner_bytes c.args.page.now c.requires).places

pub place-requires : goal.place-requires
place-requires c =
    let count = c.from-count.ensures ∙ ap (λ (h : Head). h.count) c.read-head.ensures.value in
    omega (arith, count, (inner_bytes c.args.page.now c.requires).some.1)

pub read_base-requires : goal.read_base-requires
read_base-requires c =
    let count = c.from-count.ensures ∙ ap (λ (h : Head). h.count) c.read-head.ensures.value in
    omega (arith, c.place.ensures, count, (inner_bytes c.args.page.now c.requires).some.1)
