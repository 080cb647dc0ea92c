use Rattle.std.proofs.Common.{arith}
use Rattle.hm_node.specs.Inner.{child_in}
use Rattle.hm_node.proofs.FieldLemmas.{same_child}
use Rattle.hm_node.proofs.WriteLemmas.{none_written, written_next, written_all}
use Rattle.hm_node.proofs.inner.write_children.Goals as goal

pub loop-i-init : goal.loop-i-init
loop-i-init c = (omega arith, none_written child_in 56 (omega arith) same_child c.args.page.now c.requires.sized c.requires.zero)

pub loop-i-preserved : goal.loop-i-preserved
loop-i-preserved c = (
  omega arith,
  written_next child_in 56 (omega arith) same_child c.args.children.now c.loop-i.i c.place.result c.index-children-i.result
      c.args.page.now c.loop-i.page c.write_child.new.page (omega arith) (omega arith) c.index-children-i.is c.place.ensures
      c.loop-i.invariant.1 c.write_child.ensures.others c.write_child.ensures.value c.write_child.ensures.sized,
)

pub returns : goal.returns
returns c = written_all child_in 56 (omega arith) same_child c.args.children.now c.loop-i.i c.args.page.now c.loop-i.page c.loop-i-test.false
    c.loop-i.invariant.1
