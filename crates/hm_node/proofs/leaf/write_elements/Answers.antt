use Rattle.std.proofs.Common.{arith}
use Rattle.hm_node.specs.Leaf.{element_in}
use Rattle.hm_node.proofs.FieldLemmas.{same_element}
use Rattle.hm_node.proofs.WriteLemmas.{none_written, written_next, written_all}
use Rattle.hm_node.proofs.leaf.write_elements.Goals as goal

pub loop-i-init : goal.loop-i-init
loop-i-init c = (omega arith, none_written element_in 52 (omega arith) same_element c.args.page.now c.requires.sized c.requires.zero)

pub loop-i-preserved : goal.loop-i-preserved
loop-i-preserved c = (
  omega arith,
  written_next element_in 52 (omega arith) same_element c.args.elements.now c.loop-i.i c.place.result c.index-elements-i.result
      c.args.page.now c.loop-i.page c.write_element.new.page (omega arith) c.requires.few c.index-elements-i.is c.place.ensures
      c.loop-i.invariant.1 c.write_element.ensures.others c.write_element.ensures.value c.write_element.ensures.sized,
)

pub returns : goal.returns
returns c = written_all element_in 52 (omega arith) same_element c.args.elements.now c.loop-i.i c.args.page.now c.loop-i.page c.loop-i-test.false
    c.loop-i.invariant.1
