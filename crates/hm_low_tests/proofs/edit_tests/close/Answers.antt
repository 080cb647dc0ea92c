use Rattle.std.proofs.Common.{refl, ap, arith}
use Rattle.hm_node.specs.Places.{place}
use Rattle.hm_node.specs.declared.head.Head.{Head}
use Rattle.hm_node.proofs.EditLemmas.{leaf_bytes}
use Rattle.hm_node.proofs.ReadLemmas.{element_offset}
use Rattle.hm_low_tests.proofs.edit_tests.close.Goals as goal

pub read_element-closed-requires-clause-offset : goal.read_element-closed-requires-clause-offset
read_element-closed-requires-clause-offset c =
    let leaf = leaf_bytes c.args.page.now c.in_ok-require_leaf.ensures in
    let count = ap (λ (h : Head). h.count) c.read.ensures.value in
    rw c.place.ensures (element_offset c.args.page.now (place c.args.at) _ refl (leaf.places c.args.at (omega arith)))
