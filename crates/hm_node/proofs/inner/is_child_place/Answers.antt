use Rattle.std.proofs.Common.{◌∙◌}
use Rattle.std.proofs.lemmas.Bool.{false≢true}
use Rattle.hm_node.proofs.FieldLemmas.{child_read}
use Rattle.hm_node.proofs.ReadLemmas.{child_stands, child_passes, child_has_offset}
use Rattle.hm_node.proofs.inner.is_child_place.Goals as goal

pub returns-in-Some : goal.returns-in-Some
returns-in-Some c =
    let page = c.args.page.now in
    let at = c.args.at in
    let child = c.in-Some.ensures.value ∙ c.get_u64.ensures in
    let mirror = c.get_u64-in-Some.ensures in
    let read = child_read page at c.args.left.now c.in-Some.child c.get_u64-in-Some.result c.requires.left child mirror in
    (λ is. child_stands page at _ read (c.may_stand.ensures.0 is), λ place. c.may_stand.ensures.1 (child_passes page at _ read place))

pub returns-in-None : goal.returns-in-None
returns-in-None c = (
  λ is. absurd cc,
  λ place. absurd (false≢true (c.in-None.ensures.some.1 (child_has_offset c.args.page.now c.args.at _ c.get_u64.ensures place))),
)
