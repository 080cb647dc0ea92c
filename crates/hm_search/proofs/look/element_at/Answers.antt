use Rattle.std.proofs.Common.{refl, ap, ◌∙◌, sym, arith}
use Rattle.std.specs.Prelude.{Some}
use Rattle.hm_node.specs.Leaf.{element_in}
use Rattle.hm_node.specs.Places.{place}
use Rattle.hm_node.proofs.ReadLemmas.{element_offset}
use Rattle.hm_search.proofs.LookLemmas.{first_get, first_past}
use Rattle.hm_search.proofs.look.element_at.Goals as goal

pub read_element-requires-clause-offset : goal.read_element-requires-clause-offset
read_element-requires-clause-offset c =
    rw c.place.ensures (element_offset c.args.page.now (place c.args.i) _ refl (c.requires.places c.args.i c.if-i-count.true))

pub returns-then-i-count : goal.returns-then-i-count
returns-then-i-count c =
    first_get (λ k. element_in c.args.page.now (place k)) c.args.count c.args.i c.if-i-count.true
    ∙ ap Some (sym (c.read_element.ensures ∙ ap (element_in c.args.page.now) c.place.ensures))

pub returns-else-i-count : goal.returns-else-i-count
returns-else-i-count c = first_past (λ k. element_in c.args.page.now (place k)) c.args.count c.args.i (omega (arith, c.if-i-count.false))
