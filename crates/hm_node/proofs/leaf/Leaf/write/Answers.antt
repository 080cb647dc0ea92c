use Rattle.std.proofs.Common.{ℕ, List, subst}
use Rattle.hm_key.specs.declared.element.Element.{Element}
use Rattle.hm_node.specs.Leaf.{element_in}
use Rattle.hm_node.specs.Places.{IsWritten}
use Rattle.hm_node.specs.declared.head.TheConstants.{LEAF, LEAF_LEVEL}
use Rattle.hm_node.proofs.SpellLemmas.{HasHeadAlone, head_alone, places_blank, leaf_spelled}
use Rattle.hm_node.proofs.leaf.Leaf.write.Goals as goal

pub write_elements-requires-clause-zero : goal.write_elements-requires-clause-zero
write_elements-requires-clause-zero c =
    places_blank c.write.new.page _ (head_alone c.clear.new.self c.write.new.page _ c.clear.ensures.value c.write.ensures.sized c.write.ensures.value
    c.write.ensures.others c.write.ensures.between)

pub returns : goal.returns
returns c =
    let alone = head_alone c.clear.new.self c.write.new.page _ c.clear.ensures.value c.write.ensures.sized c.write.ensures.value
    c.write.ensures.others c.write.ensures.between in
    leaf_spelled c.args.self.now c.write.new.page c.write_elements.new.page
    (subst (λ (n : ℕ). HasHeadAlone c.write.new.page (record { kind = LEAF; level = LEAF_LEVEL; count = n; mirror = c.args.self.now.mirror }))
    c.len.ensures.value alone)
    (subst (λ (es : List Element). IsWritten element_in 52 es c.write.new.page c.write_elements.new.page) c.as_slice.ensures.value c.write_elements.ensures)
