use Rattle.std.proofs.Common.{◌≡◌, ◌<◌, length, arith, Some, Option}
use Rattle.hm_key.specs.Key.{key_of}
use Rattle.hm_key.specs.declared.element.Element.{Element}
use Rattle.hm_key.proofs.LastLemmas.{last_after, last_step}
use Rattle.hm_key.proofs.element_list.ElementList.last_to.Goals as goal
use Rattle.hm_key.proofs.element_list.ElementList.last_to.Goals.{then-ne, else-ne}

pub loop-element-preserved : goal.loop-element-preserved
loop-element-preserved c =
    let key = key_of c.args.at.now in
    let es = c.args.self.now.list.items in
    let e = c.element-item.result in
    let within : c.loop-element.element-index < length es = omega arith in
    last_step key es c.loop-element.element-index e c.loop-element.last c.if-ne.last within
    (rw c.deref-element-items.ensures.value at c.element-item.is) c.loop-element.invariant
    (last_after key e c.order.result c.ne.result c.loop-element.last c.if-ne.last c.order.ensures c.ne.ensures
    (elim c.if-ne.branch [ then-ne w ↦ rw w.if-ne.true w.last-is | else-ne w ↦ rw w.if-ne.false w.last-is ]))
