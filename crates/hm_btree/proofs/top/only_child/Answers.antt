use Rattle.std.proofs.Common.{◌≤◌, ap, sym, subst, arith}
use Rattle.std.specs.Prelude.{length}
use Rattle.hm_node.specs.Head.{head_in}
use Rattle.hm_node.specs.Inner.{child_in, inner_in}
use Rattle.hm_node.specs.Places.{place}
use Rattle.hm_node.specs.declared.head.Head.{Head}
use Rattle.hm_node.specs.declared.node.Node.{Node}
use Rattle.hm_node.proofs.InnerEditLemmas.{inner_bytes}
use Rattle.hm_node.proofs.PlaceLemmas.{first_length}
use Rattle.hm_node.proofs.ReadyLemmas.{inner_page, inner_there}
use Rattle.hm_btree.specs.Shrink.{HasNeighbours}
use Rattle.hm_btree.proofs.top.only_child.Goals as goal

pub returns-else-head-eq1-clause-none : goal.returns-else-head-eq1-clause-none
returns-else-head-eq1-clause-none c =
    let page = c.args.page.now in
    let inner = inner_page page c.read-head.result c.read-head.ensures.value c.if-head-eq-LEAF.false c.requires in
    let count = ap (λ (h : Head). h.count) c.read-head.ensures.value in
    let size = first_length (λ i. child_in page (place i)) (head_in page).count in
    let many : 2 ≤ length (inner_in page).places.items = omega (arith, count, size, (inner_bytes page inner).some.0, c.if-head-eq1.false) in
    subst (λ (n : Node). HasNeighbours n) (sym (inner_there page c.read-head.result c.read-head.ensures.value c.if-head-eq-LEAF.false)) many
