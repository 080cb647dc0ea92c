use Rattle.std.proofs.Common.{◌∙◌, ◌^◌, List, refl, sym, subst, arith}
use Rattle.hm_view.proofs.ListingLemmas.{Listed, listed_all, listed_more, listed_none}
use Rattle.hm_view.proofs.OrderLemmas.{Item}
use Rattle.hm_view.proofs.listing.names_by_key.Goals as goal

pub loop-names-init : goal.loop-names-init
loop-names-init g c =
    let es = g.T.HasElements.elements c.args.store.now in
    let xs = g.T.HasRoom.extents c.args.store.now in
    let content = g.met.T.ElementStore.sorted c.args.store.now in
    record {
      listed = subst (λ (items : List Item). Listed es xs c.args.pfs.0 c.args.as_of.0 c.args.directory content (2 ^ 63) items) (sym c.new-names.ensures.items)
          (listed_none es xs c.args.pfs.0 c.args.as_of.0 c.args.directory content);
      keeps = record { elements = refl; mark = refl; extents = refl; room = refl; free = refl };
      name = refl;
      frame = refl;
      faults = omega arith;
    }

pub loop-names-preserved : goal.loop-names-preserved
loop-names-preserved g c =
    let was = c.loop-names.invariant in
    let es = g.T.HasElements.elements c.args.store.now in
    let xs = g.T.HasRoom.extents c.args.store.now in
    let content = g.met.T.ElementStore.sorted c.args.store.now in
    let next = c.in_ok-key.ensures in
    let kind = c.in_ok-kind.ensures in
    record {
      listed = subst (λ (items : List Item). Listed es xs c.args.pfs.0 c.args.as_of.0 c.args.directory content c.in-Some.key items)
          (sym c.in_ok-push.ensures.items)
          (listed_more es xs c.args.pfs.0 c.args.as_of.0 c.args.directory content c.loop-names.end c.in-Some.key c.in_ok-kind.kind
          c.loop-names.names.items c.in-Some.entry c.in_ok-key.field-0 (g.T.HasElements.elements c.loop-names.store)
          (g.T.HasElements.elements c.name_before.new.store) (g.T.HasRoom.extents c.loop-names.store) (g.T.HasRoom.extents c.name_before.new.store)
          was.keeps.elements was.keeps.extents (next.keeps.elements ∙ was.keeps.elements) (next.keeps.extents ∙ was.keeps.extents)
          c.in-Some.is next.ok kind.ok was.listed);
      keeps = record {
        elements = kind.keeps.elements ∙ next.keeps.elements ∙ was.keeps.elements;
        mark = kind.keeps.mark ∙ next.keeps.mark ∙ was.keeps.mark;
        extents = kind.keeps.extents ∙ next.keeps.extents ∙ was.keeps.extents;
        room = kind.keeps.room ∙ next.keeps.room ∙ was.keeps.room;
        free = kind.keeps.free ∙ next.keeps.free ∙ was.keeps.free;
      };
      name = kind.borrowed.0 ∙ next.borrowed.0 ∙ was.name;
      frame = kind.borrowed.1 ∙ next.borrowed.1 ∙ was.frame;
      faults = omega (arith, was.faults, next.cause.counted.never_falls, kind.cause.counted.never_falls);
    }

pub returns-clause-ok : goal.returns-clause-ok
returns-clause-ok g c =
    listed_all (g.T.HasElements.elements c.args.store.now) (g.T.HasRoom.extents c.args.store.now) c.args.pfs.0 c.args.as_of.0 c.args.directory
    (g.met.T.ElementStore.sorted c.args.store.now) c.loop-names.end c.loop-names.names.items c.in_ok-key.field-0
    (g.T.HasElements.elements c.loop-names.store) (g.T.HasRoom.extents c.loop-names.store) c.loop-names.invariant.keeps.elements
    c.loop-names.invariant.keeps.extents c.in_default.is c.in_ok-key.ensures.ok c.loop-names.invariant.listed
