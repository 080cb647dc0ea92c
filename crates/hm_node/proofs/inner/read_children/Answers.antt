use Rattle.std.proofs.Common.{length, refl, ap, ◌∙◌, arith}
use Rattle.hm_node.specs.Places.{place}
use Rattle.hm_node.specs.Inner.{child_in}
use Rattle.hm_node.proofs.PlaceLemmas.{first_length, first_none, first_more}
use Rattle.hm_node.proofs.ReadLemmas.{child_has_offset}
use Rattle.hm_node.proofs.inner.read_children.Goals as goal

pub loop-i-init : goal.loop-i-init
loop-i-init c = first_none (λ i. child_in c.args.page.now (place i)) c.args.into.now.items c.requires.empty

pub read_child-requires-clause-offset : goal.read_child-requires-clause-offset
read_child-requires-clause-offset c = rw c.place.ensures (child_has_offset c.args.page.now (place c.loop-i.i) _ refl
    (c.requires.places c.loop-i.i (omega arith)))

pub push-requires : goal.push-requires
push-requires c =
    (omega arith, omega (arith, ap length c.loop-i.invariant, first_length (λ i. child_in c.args.page.now (place i)) c.loop-i.i))

pub loop-i-preserved : goal.loop-i-preserved
loop-i-preserved c =
    first_more (λ i. child_in c.args.page.now (place i)) c.loop-i.i c.loop-i.into.items c.push.new.self.items c.read_child.result
    c.loop-i.invariant (c.read_child.ensures ∙ ap (λ at. child_in c.args.page.now at) c.place.ensures) c.push.ensures.items
