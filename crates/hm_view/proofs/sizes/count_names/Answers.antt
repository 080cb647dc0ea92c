use Rattle.std.proofs.Common.{◌<◌, ◌∙◌, ℕ, Option, refl, subst, arith}
use Rattle.std.specs.Prelude.{IfSome}
use Rattle.hm_records.specs.declared.entry.DirEntry.{DirEntry}
use Rattle.hm_view.proofs.ListingLemmas.{counted_all, counted_more, counted_none}
use Rattle.hm_view.proofs.sizes.count_names.Goals as goal

pub loop-key-init : goal.loop-key-init
loop-key-init g c = record {
  counted = counted_none (g.T.HasElements.elements c.args.store.now) (g.T.HasRoom.extents c.args.store.now) c.args.pfs.0 c.args.as_of.0
      c.args.directory (g.met.T.ElementStore.sorted c.args.store.now);
  few = omega arith;
  keeps = record { elements = refl; mark = refl; extents = refl; room = refl; free = refl };
  name = refl;
  frame = refl;
  faults = omega arith;
}

pub loop-key-preserved-in-Some : goal.loop-key-preserved-in-Some
loop-key-preserved-in-Some g c =
    let was = c.loop-key.invariant in
    let next = c.in_ok-key.ensures in
    let falls : c.in-Some.key < c.loop-key.end =
    subst (λ (found : Option (ℕ × DirEntry)). IfSome found (λ pair. pair.0 < c.loop-key.end)) c.in-Some.is next.falls in
    record {
      counted = counted_more (g.T.HasElements.elements c.args.store.now) (g.T.HasRoom.extents c.args.store.now) c.args.pfs.0 c.args.as_of.0
          c.args.directory (g.met.T.ElementStore.sorted c.args.store.now) c.loop-key.end c.in-Some.key c.loop-key.count c.in-Some.field-0-1
          c.in_ok-key.field-0 (g.T.HasElements.elements c.loop-key.store) (g.T.HasRoom.extents c.loop-key.store) was.keeps.elements
          was.keeps.extents c.in-Some.is next.ok was.counted;
      few = omega (arith, was.few, falls);
      keeps = record {
        elements = next.keeps.elements ∙ was.keeps.elements;
        mark = next.keeps.mark ∙ was.keeps.mark;
        extents = next.keeps.extents ∙ was.keeps.extents;
        room = next.keeps.room ∙ was.keeps.room;
        free = next.keeps.free ∙ was.keeps.free;
      };
      name = next.borrowed.0 ∙ was.name;
      frame = next.borrowed.1 ∙ was.frame;
      faults = omega (arith, was.faults, next.cause.counted.never_falls);
    }

pub returns-clause-ok : goal.returns-clause-ok
returns-clause-ok g c =
    counted_all (g.T.HasElements.elements c.args.store.now) (g.T.HasRoom.extents c.args.store.now) c.args.pfs.0 c.args.as_of.0 c.args.directory
    (g.met.T.ElementStore.sorted c.args.store.now) c.loop-key.end c.loop-key.count c.in_ok-key.field-0
    (g.T.HasElements.elements c.loop-key.store) (g.T.HasRoom.extents c.loop-key.store) c.loop-key.invariant.keeps.elements
    c.loop-key.invariant.keeps.extents c.in_default.is c.in_ok-key.ensures.ok c.loop-key.invariant.counted
