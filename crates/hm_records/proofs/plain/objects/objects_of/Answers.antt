use Rattle.std.proofs.Common.{◌≡◌, ◌+◌, List, take, sym, subst}
use Rattle.std.specs.Prelude.{Option, insert}
use Rattle.hm_types.specs.declared.object.Object.{Object}
use Rattle.hm_types.specs.Tree.{insert_by, is_object_before}
use Rattle.hm_key.specs.Counts.{Counts}
use Rattle.hm_records.specs.PlainView.{HoldsObjects, IsNewObject}
use Rattle.hm_records.proofs.CountsLemmas.{settled}
use Rattle.hm_records.proofs.PlainTreeLemmas.{objects_added, objects_passed}
use Rattle.hm_records.proofs.plain.objects.objects_of.Goals as goal
use Rattle.hm_records.proofs.plain.objects.objects_of.Goals.{in-Some+in_ok-insert, in_default}

pub loop-element-preserved : goal.loop-element-preserved
loop-element-preserved c =
    let known : IsNewObject (Counts c.args.elements.now c.args.id) c.args.pfs.0 c.element-item.result c.loop-element.objects.items
    c.in_ok-object.field-0 = rw c.deref.ensures.value at c.in_ok-object.ensures in
    elim c.match-branch-2.branch [
      | in-Some+in_ok-insert w ↦
          let added = objects_added (Counts c.args.elements.now c.args.id) c.args.pfs.0 (settled c.args.elements.now c.args.id c.requires) c.args.elements.now
          c.loop-element.element-index c.element-item.result c.loop-element-test.true c.element-item.is c.loop-element.objects.items w.in-Some.object
          c.loop-element.invariant
          (subst (λ (o : Option Object). IsNewObject (Counts c.args.elements.now c.args.id) c.args.pfs.0 c.element-item.result
          c.loop-element.objects.items o) w.in-Some.is known) in
          let place : insert c.loop-element.objects.items w.place_of_object-place.result w.in-Some.object ≡ insert_by is_object_before
          w.in-Some.object c.loop-element.objects.items = rw w.deref-in-Some.ensures.value at w.place_of_object-place.ensures.place in
          rw (w.objects-is, w.in_ok-insert.ensures.items)
          (subst (λ (os : List Object). HoldsObjects (Counts c.args.elements.now c.args.id) c.args.pfs.0
          (take (c.loop-element.element-index + 1) c.args.elements.now) os) (sym place) added)
      | in_default w ↦
          rw w.objects-is
          (objects_passed (Counts c.args.elements.now c.args.id) c.args.pfs.0 (settled c.args.elements.now c.args.id c.requires) c.args.elements.now
          c.loop-element.element-index c.element-item.result c.loop-element-test.true c.element-item.is c.loop-element.objects.items c.loop-element.invariant
          (subst (λ (o : Option Object). IsNewObject (Counts c.args.elements.now c.args.id) c.args.pfs.0 c.element-item.result
          c.loop-element.objects.items o) w.in_default.is known))
    ]
