use Rattle.std.proofs.Common.{refl, ap, ◌∙◌}
use Rattle.hm_node.specs.Base.{base_in}
use Rattle.hm_node.specs.Inner.{child_in}
use Rattle.hm_node.specs.Places.{place}
use Rattle.hm_node.specs.declared.head.Head.{Head}
use Rattle.hm_node.proofs.ReadLemmas.{child_has_offset}
use Rattle.hm_search.proofs.LookLemmas.{child_below}
use Rattle.hm_search.proofs.look.child_at.Goals as goal

pub read_child-child-requires-clause-offset : goal.read_child-child-requires-clause-offset
read_child-child-requires-clause-offset c =
    rw c.place.ensures (child_has_offset c.args.page.now (place c.args.i) _ refl (c.requires.places c.args.i c.requires.low))

pub returns : goal.returns
returns c =
    child_below c.args.page.now c.args.i c.args.head.now.level c.args.head.now.count c.read_child-child.result c.read_base.result
    (ap (λ (h : Head). h.level) c.requires.head) (ap (λ (h : Head). h.count) c.requires.head) c.requires.low
    (c.read_child-child.ensures ∙ ap (child_in c.args.page.now) c.place.ensures) (c.read_base.ensures ∙ ap (base_in c.args.page.now) c.place-2.ensures)
