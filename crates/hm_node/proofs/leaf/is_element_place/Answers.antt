use Rattle.std.proofs.Common.{rules, sym, subst, ◌∙◌}
use Rattle.std.proofs.lemmas.Bool.{false≢true}
use Rattle.hm_types.specs.Offset.{IsOffset}
use Rattle.hm_node.proofs.FieldLemmas.{element_read}
use Rattle.hm_node.proofs.ReadLemmas.{element_stands, element_passes, element_offset}
use Rattle.hm_node.proofs.leaf.is_element_place.Goals as goal

pub returns-in-Some : goal.returns-in-Some
returns-in-Some c =
    let page = c.args.page.now in
    let at = c.args.at in
    let payload = c.in-Some.ensures.value ∙ c.get_u64.ensures in
    let read = element_read page at c.args.base.now c.in-Some.payload c.get_u32.result c.requires.base payload c.get_u32.ensures in
    let offset = subst IsOffset (sym c.in-Some.ensures.value) (c.in-Some.ensures.some.0 (search rules)) in
    (λ is. element_stands page at _ read offset (c.may_stand.ensures.0 is), λ place. c.may_stand.ensures.1 (element_passes page at _ read place))

pub returns-in-None : goal.returns-in-None
returns-in-None c = (
  λ is. absurd cc,
  λ place. absurd (false≢true (c.in-None.ensures.some.1 (element_offset c.args.page.now c.args.at _ c.get_u64.ensures place))),
)
