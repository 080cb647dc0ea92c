use Rattle.std.proofs.Common.{◌∙◌, ◌^◌, List, map, refl, sym, ap, subst, arith}
use Rattle.hm_types.specs.declared.id.Id.{Id}
use Rattle.hm_view.specs.Snapshots.{id_number}
use Rattle.hm_view.proofs.SnapshotLemmas.{Named, kept, named_all, named_more, named_none, pushed}
use Rattle.hm_view.proofs.snapshots.snapshot_ids.Goals.{in-Some-2+in_ok-push, in_default-2}
use Rattle.hm_view.proofs.snapshots.snapshot_ids.Goals as goal

pub loop-ids-init : goal.loop-ids-init
loop-ids-init g c =
    let es = g.T.HasElements.elements c.args.store.now in
    let xs = g.T.HasRoom.extents c.args.store.now in
    let content = g.met.T.ElementStore.sorted c.args.store.now in
    record {
      named = subst (λ (items : List Id). Named es xs c.args.pfs.0 c.args.as_of.0 c.args.directory c.args.shown.0 content (2 ^ 63)
          (map (λ (id : Id). id.0) items))
          (sym c.new-ids.ensures.items) (named_none es xs c.args.pfs.0 c.args.as_of.0 c.args.directory c.args.shown.0 content);
      keeps = record { elements = refl; mark = refl; extents = refl; room = refl; free = refl };
      name = refl;
      frame = refl;
      faults = omega arith;
    }

pub returns-clause-ok : goal.returns-clause-ok
returns-clause-ok g c =
    named_all (g.T.HasElements.elements c.args.store.now) (g.T.HasRoom.extents c.args.store.now) c.args.pfs.0 c.args.as_of.0 c.args.directory
    c.args.shown.0 (g.met.T.ElementStore.sorted c.args.store.now) c.loop-ids.end (map (λ (id : Id). id.0) c.loop-ids.ids.items) c.in_ok-key.field-0
    (g.T.HasElements.elements c.loop-ids.store) (g.T.HasRoom.extents c.loop-ids.store) c.loop-ids.invariant.keeps.elements
    c.loop-ids.invariant.keeps.extents c.in_default.is c.in_ok-key.ensures.ok c.loop-ids.invariant.named

pub loop-ids-preserved : goal.loop-ids-preserved
loop-ids-preserved g c =
    let was = c.loop-ids.invariant in
    let es = g.T.HasElements.elements c.args.store.now in
    let xs = g.T.HasRoom.extents c.args.store.now in
    let content = g.met.T.ElementStore.sorted c.args.store.now in
    let next = c.in_ok-key.ensures in
    let id = c.in_ok-id.ensures in
    let more =
    named_more es xs c.args.pfs.0 c.args.as_of.0 c.args.directory c.args.shown.0 content c.loop-ids.end c.in-Some.key
    (map (λ (i : Id). i.0) c.loop-ids.ids.items) (id_number c.in_ok-id.field-0) c.in-Some.entry c.in_ok-key.field-0
    (g.T.HasElements.elements c.loop-ids.store) (g.T.HasElements.elements c.name_before.new.store) (g.T.HasRoom.extents c.loop-ids.store)
    (g.T.HasRoom.extents c.name_before.new.store) was.keeps.elements was.keeps.extents (next.keeps.elements ∙ was.keeps.elements)
    (next.keeps.extents ∙ was.keeps.extents) c.in-Some.is next.ok id.ok was.named in
    record {
      named = subst (Named es xs c.args.pfs.0 c.args.as_of.0 c.args.directory c.args.shown.0 content c.in-Some.key)
          (elim c.match-branch-4.branch [
            | in-Some-2+in_ok-push w ↦
                pushed c.loop-ids.ids.items c.match-branch-4.ids.items c.in_ok-id.field-0 w.in-Some-2.id w.in-Some-2.is
                (ap (λ v. v.items) w.ids-is ∙ w.in_ok-push.ensures.items)
            | in_default-2 w ↦
                kept c.loop-ids.ids.items c.match-branch-4.ids.items c.in_ok-id.field-0 w.in_default-2.is (ap (λ v. v.items) w.ids-is)
          ])
          more;
      keeps = record {
        elements = id.keeps.elements ∙ next.keeps.elements ∙ was.keeps.elements;
        mark = id.keeps.mark ∙ next.keeps.mark ∙ was.keeps.mark;
        extents = id.keeps.extents ∙ next.keeps.extents ∙ was.keeps.extents;
        room = id.keeps.room ∙ next.keeps.room ∙ was.keeps.room;
        free = id.keeps.free ∙ next.keeps.free ∙ was.keeps.free;
      };
      name = id.borrowed.0 ∙ next.borrowed.0 ∙ was.name;
      frame = id.borrowed.1 ∙ next.borrowed.1 ∙ was.frame;
      faults = omega (arith, was.faults, next.cause.counted.never_falls, id.cause.counted.never_falls);
    }
