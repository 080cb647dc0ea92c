use Rattle.std.proofs.Common.{◌≡◌, ◌+◌, List, take, sym, subst}
use Rattle.std.specs.Prelude.{Option, insert}
use Rattle.hm_types.specs.declared.object.Triple.{Triple}
use Rattle.hm_types.specs.Tree.{insert_by, is_triple_before}
use Rattle.hm_key.specs.Counts.{Counts}
use Rattle.hm_records.specs.PlainView.{HoldsTriples, IsNewTriple}
use Rattle.hm_records.proofs.CountsLemmas.{settled}
use Rattle.hm_records.proofs.PlainTreeLemmas.{triples_added, triples_passed}
use Rattle.hm_records.proofs.plain.names.triples_of.Goals as goal
use Rattle.hm_records.proofs.plain.names.triples_of.Goals.{in-Some+in_ok-insert, in_default}

pub loop-element-preserved : goal.loop-element-preserved
loop-element-preserved c =
    let known : IsNewTriple (Counts c.args.elements.now c.args.id) c.args.pfs.0 c.element-item.result c.loop-element.triples.items
    c.in_ok-triple.field-0 = rw c.deref.ensures.value at c.in_ok-triple.ensures in
    elim c.match-branch-2.branch [
      | in-Some+in_ok-insert w ↦
          let added = triples_added (Counts c.args.elements.now c.args.id) c.args.pfs.0 (settled c.args.elements.now c.args.id c.requires) c.args.elements.now
          c.loop-element.element-index c.element-item.result c.loop-element-test.true c.element-item.is c.loop-element.triples.items w.in-Some.triple
          c.loop-element.invariant
          (subst (λ (o : Option Triple). IsNewTriple (Counts c.args.elements.now c.args.id) c.args.pfs.0 c.element-item.result
          c.loop-element.triples.items o) w.in-Some.is known) in
          let place : insert c.loop-element.triples.items w.place_of_triple-place.result w.in-Some.triple ≡ insert_by is_triple_before
          w.in-Some.triple c.loop-element.triples.items = rw w.deref-in-Some.ensures.value at w.place_of_triple-place.ensures.place in
          rw (w.triples-is, w.in_ok-insert.ensures.items)
          (subst (λ (os : List Triple). HoldsTriples (Counts c.args.elements.now c.args.id) c.args.pfs.0
          (take (c.loop-element.element-index + 1) c.args.elements.now) os) (sym place) added)
      | in_default w ↦
          rw w.triples-is
          (triples_passed (Counts c.args.elements.now c.args.id) c.args.pfs.0 (settled c.args.elements.now c.args.id c.requires) c.args.elements.now
          c.loop-element.element-index c.element-item.result c.loop-element-test.true c.element-item.is c.loop-element.triples.items c.loop-element.invariant
          (subst (λ (o : Option Triple). IsNewTriple (Counts c.args.elements.now c.args.id) c.args.pfs.0 c.element-item.result
          c.loop-element.triples.items o) w.in_default.is known))
    ]
