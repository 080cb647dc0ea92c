use Rattle.std.proofs.Common.{ap, subst, sym, ◌∙◌, ℕ, ◌≤◌}
use Rattle.hm_node.specs.Leaf.{ArePlaces}
use Rattle.hm_node.specs.declared.head.Head.{Head}
use Rattle.hm_node.proofs.EditLemmas.{leaf_bytes}
use Rattle.hm_node.proofs.leaf.Leaf.of.Goals as goal

pub read_elements-requires-clause-count : goal.read_elements-requires-clause-count
read_elements-requires-clause-count c =
    subst (λ (n : ℕ). n ≤ 63) (sym (c.from.ensures ∙ ap (λ (h : Head). h.count) c.read-head.ensures.value))
    (leaf_bytes c.args.page.now c.requires).few

pub read_elements-requires-clause-places : goal.read_elements-requires-clause-places
read_elements-requires-clause-places c =
    subst (ArePlaces c.args.page.now) (sym (c.from.ensures ∙ ap (λ (h : Head). h.count) c.read-head.ensures.value))
    (leaf_bytes c.args.page.now c.requires).places
