use Rattle.std.proofs.Common.{◌<◌, ◌-◌, refl, ap, ◌∙◌, sym, arith}
use Rattle.std.specs.Prelude.{Some}
use Rattle.hm_node.specs.Leaf.{element_in, first_elements}
use Rattle.hm_node.specs.Places.{place}
use Rattle.hm_node.proofs.ReadLemmas.{element_offset}
use Rattle.hm_search.proofs.LookLemmas.{first_get}
use Rattle.hm_search.proofs.LookToLemmas.{before_at}
use Rattle.hm_search.proofs.look_to.element_before.Goals as goal

pub read_element-requires-clause-offset : goal.read_element-requires-clause-offset
read_element-requires-clause-offset c =
    let low : c.args.i - 1 < c.args.count = omega (arith, c.if-i-eq0.false, c.requires.within) in
    rw c.place.ensures (element_offset c.args.page.now (place (c.args.i - 1)) _ refl (c.requires.places (c.args.i - 1) low))

pub returns-else-i-eq0 : goal.returns-else-i-eq0
returns-else-i-eq0 c =
    let page = c.args.page.now in
    let i = c.args.i - 1 in
    let low : i < c.args.count = omega (arith, c.if-i-eq0.false, c.requires.within) in
    before_at (first_elements page c.args.count) c.args.i (Some c.read_element.result) (omega (arith, c.if-i-eq0.false))
    (first_get (λ k. element_in page (place k)) c.args.count i low ∙ ap Some (sym (c.read_element.ensures ∙ ap (element_in page) c.place.ensures)))
