-- A unit of a reblock is made, and kept or dropped.
use Rattle.std.proofs.Common.{None, ap, subst}
use Rattle.std.specs.Prelude.{IfErr}
use Rattle.hm_types.specs.Faults.{IsSpaceCaused, IsSpaceUndamaged}
use Rattle.hm_types.specs.Space.{IfNoSpace}
use Rattle.hm_pages.specs.Store.{contents}
use Rattle.hm_relocate.specs.Way.{way_of}
use Rattle.hm_stored.specs.Heap.{heap_of}
use Rattle.hm_core.specs.Unit.{LacksForChoice}
use Rattle.hm_core.proofs.ChoiceLemmas.{left_kept}
use Rattle.hm_core.proofs.CrashLemmas.{leaves_around}
use Rattle.hm_core.proofs.TurnLemmas.{balanced_begun, begun_some}
use Rattle.hm_core.proofs.UnitLemmas.{admit_caused, dropped_unit, kept_unit, lacks_begun, moves_on, progress_done, told_so}
use Rattle.hm_core.proofs.reblock_unit.reblock_over.Goals as goal

pub unit-requires : goal.unit-requires
unit-requires g c =
    let s = c.args.stored.now in
    let s1 = c.begin.new.self in
    record {
      balanced = balanced_begun (heap_of (contents s.space.pages.store) (g.D.Disk.told s.space.disk) s.space.books)
          (heap_of (contents s1.space.pages.store) (g.D.Disk.told s1.space.disk) s1.space.books) s.root s1.root c.args.last.0 c.requires.closed s.space.kept
          c.begin.ensures.turn c.begin.ensures.root;
    }

pub keep-requires-clause-opened : goal.keep-requires-clause-opened
unfolding heap_of
keep-requires-clause-opened g c =
    let s = c.args.stored.now in
    let s1 = c.begin.new.self in
    let s2 = c.unit.new.stored in
    begun_some (heap_of (contents s.space.pages.store) (g.D.Disk.told s.space.disk) s.space.books)
    (heap_of (contents s1.space.pages.store) (g.D.Disk.told s1.space.disk) s1.space.books)
    (heap_of (contents s2.space.pages.store) (g.D.Disk.told s2.space.disk) s2.space.books) s.root c.args.last.0 c.begin.ensures.turn
    (ap (λ f. f.0) c.unit.ensures.frame)

pub undo-requires : goal.undo-requires
unfolding heap_of
undo-requires g c =
    let s = c.args.stored.now in
    let s1 = c.begin.new.self in
    let s2 = c.unit.new.stored in
    record {
      opened = begun_some (heap_of (contents s.space.pages.store) (g.D.Disk.told s.space.disk) s.space.books)
          (heap_of (contents s1.space.pages.store) (g.D.Disk.told s1.space.disk) s1.space.books)
          (heap_of (contents s2.space.pages.store) (g.D.Disk.told s2.space.disk) s2.space.books) s.root c.args.last.0 c.begin.ensures.turn
          (ap (λ f. f.0) c.unit.ensures.frame);
    }

pub undo-requires-in-Err : goal.undo-requires-in-Err
unfolding heap_of
undo-requires-in-Err g c =
    let s = c.args.stored.now in
    let s1 = c.begin.new.self in
    let s2 = c.unit.new.stored in
    record {
      opened = begun_some (heap_of (contents s.space.pages.store) (g.D.Disk.told s.space.disk) s.space.books)
          (heap_of (contents s1.space.pages.store) (g.D.Disk.told s1.space.disk) s1.space.books)
          (heap_of (contents s2.space.pages.store) (g.D.Disk.told s2.space.disk) s2.space.books) s.root c.args.last.0 c.begin.ensures.turn
          (ap (λ f. f.0) c.unit.ensures.frame);
    }

pub returns-in-Ok : goal.returns-in-Ok
unfolding heap_of
returns-in-Ok g c =
    let s = c.args.stored.now in
    let s1 = c.begin.new.self in
    let s2 = c.unit.new.stored in
    let s3 = c.keep.new.self in
    let cause =
    admit_caused _ _ _ (g.D.Disk.faults s.space.disk) (g.D.Disk.faults s3.space.disk) c.unit.result (ap g.D.Disk.faults c.begin.ensures.disk)
    (ap g.D.Disk.faults c.keep.ensures.disk) c.unit.ensures.store.cause in
    record {
      leaves = kept_unit (λ _. None) (heap_of (contents s.space.pages.store) (g.D.Disk.told s.space.disk) s.space.books)
          (heap_of (contents s1.space.pages.store) (g.D.Disk.told s1.space.disk) s1.space.books)
          (heap_of (contents s2.space.pages.store) (g.D.Disk.told s2.space.disk) s2.space.books)
          (heap_of (contents s3.space.pages.store) (g.D.Disk.told s3.space.disk) s3.space.books) s.root s1.root s2.root s3.root c.args.last.0
          (g.D.Disk.faults s.space.disk) (g.D.Disk.faults s3.space.disk) c.requires.closed s.space.kept c.begin.ensures.turn c.begin.ensures.root
          (ap (λ f. f.0) c.unit.ensures.frame) cause.counted.never_falls (c.can_keep.ensures.0 c.if-can_keep.true).whole c.keep.ensures.turn
          c.keep.ensures.content c.keep.ensures.root c.pages_are_bytes.ensures s2.tree c.in-Ok.ensures.store.store.content;
      choice = (
        left_kept (heap_of (contents s.space.pages.store) (g.D.Disk.told s.space.disk) s.space.books)
            (heap_of (contents s1.space.pages.store) (g.D.Disk.told s1.space.disk) s1.space.books)
            (heap_of (contents s2.space.pages.store) (g.D.Disk.told s2.space.disk) s2.space.books)
            (heap_of (contents s3.space.pages.store) (g.D.Disk.told s3.space.disk) s3.space.books) s.root c.args.last.0 c.begin.ensures.turn
            c.keep.ensures.turn c.args.reblock.now.payloads.choice c.unit.new.self.payloads.choice c.unit.ensures.choice,
        λ is. progress_done _ _ _ is c.in-Ok.ensures.ends.goes,
      );
      more = moves_on (λ _. None) (heap_of (contents s.space.pages.store) (g.D.Disk.told s.space.disk) s.space.books)
          (heap_of (contents s1.space.pages.store) (g.D.Disk.told s1.space.disk) s1.space.books)
          (heap_of (contents s2.space.pages.store) (g.D.Disk.told s2.space.disk) s2.space.books)
          (heap_of (contents s3.space.pages.store) (g.D.Disk.told s3.space.disk) s3.space.books) s.root s1.root s2.root s3.root c.args.last.0
          (g.D.Disk.faults s.space.disk) (g.D.Disk.faults s3.space.disk) c.requires.closed s.space.kept c.begin.ensures.turn c.begin.ensures.root
          (ap (λ f. f.0) c.unit.ensures.frame) cause.counted.never_falls (c.can_keep.ensures.0 c.if-can_keep.true).whole c.keep.ensures.turn
          c.keep.ensures.content c.keep.ensures.root c.pages_are_bytes.ensures s2.tree c.in-Ok.ensures.store.store.content (way_of c.args.reblock.now)
          (way_of c.unit.new.self) c.args.reblock.now.payloads.choice c.unit.new.self.payloads.choice c.in-Ok.progress c.in-Ok.ensures.ends.goes;
      crashes = leaves_around g.D.Disk.left_since g.D.Disk.told s.space.disk s1.space.disk s2.space.disk s3.space.disk c.begin.ensures.disk
          c.keep.ensures.disk (c.what_a_crash_leaves_over_calls.ensures s1 s2 c.unit.ensures.frame);
      cause = tt;
      undamaged = λ volume holds. tt;
      space = tt;
    }

pub returns-in-Ok-2 : goal.returns-in-Ok-2
unfolding heap_of
returns-in-Ok-2 g c =
    let s = c.args.stored.now in
    let s1 = c.begin.new.self in
    let s2 = c.unit.new.stored in
    let s3 = c.undo.new.self in
    let cause =
    admit_caused _ _ _ (g.D.Disk.faults s.space.disk) (g.D.Disk.faults s3.space.disk) c.unit.result (ap g.D.Disk.faults c.begin.ensures.disk)
    (ap g.D.Disk.faults c.undo.ensures.disk) c.unit.ensures.store.cause in
    record {
      leaves = dropped_unit (λ _. None) (heap_of (contents s.space.pages.store) (g.D.Disk.told s.space.disk) s.space.books)
          (heap_of (contents s1.space.pages.store) (g.D.Disk.told s1.space.disk) s1.space.books)
          (heap_of (contents s2.space.pages.store) (g.D.Disk.told s2.space.disk) s2.space.books)
          (heap_of (contents s3.space.pages.store) (g.D.Disk.told s3.space.disk) s3.space.books) s.root s1.root s2.root s3.root c.args.last.0
          (g.D.Disk.faults s.space.disk) (g.D.Disk.faults s3.space.disk) c.requires.closed s.space.kept c.begin.ensures.turn c.begin.ensures.root
          (ap (λ f. f.0) c.unit.ensures.frame) cause.counted.never_falls c.undo.ensures.turn c.undo.ensures.root c.undo.ensures.held;
      choice = tt;
      more = tt;
      crashes = leaves_around g.D.Disk.left_since g.D.Disk.told s.space.disk s1.space.disk s2.space.disk s3.space.disk c.begin.ensures.disk
          c.undo.ensures.disk (c.what_a_crash_leaves_over_calls.ensures s1 s2 c.unit.ensures.frame);
      cause = tt;
      undamaged = λ volume holds. tt;
      space = tt;
    }

pub returns-in-Err : goal.returns-in-Err
unfolding heap_of
returns-in-Err g c =
    let s = c.args.stored.now in
    let s1 = c.begin.new.self in
    let s2 = c.unit.new.stored in
    let s3 = c.undo-in-Err.new.self in
    let cause =
    admit_caused _ _ _ (g.D.Disk.faults s.space.disk) (g.D.Disk.faults s3.space.disk) c.unit.result (ap g.D.Disk.faults c.begin.ensures.disk)
    (ap g.D.Disk.faults c.undo-in-Err.ensures.disk) c.unit.ensures.store.cause in
    record {
      leaves = dropped_unit (λ _. None) (heap_of (contents s.space.pages.store) (g.D.Disk.told s.space.disk) s.space.books)
          (heap_of (contents s1.space.pages.store) (g.D.Disk.told s1.space.disk) s1.space.books)
          (heap_of (contents s2.space.pages.store) (g.D.Disk.told s2.space.disk) s2.space.books)
          (heap_of (contents s3.space.pages.store) (g.D.Disk.told s3.space.disk) s3.space.books) s.root s1.root s2.root s3.root c.args.last.0
          (g.D.Disk.faults s.space.disk) (g.D.Disk.faults s3.space.disk) c.requires.closed s.space.kept c.begin.ensures.turn c.begin.ensures.root
          (ap (λ f. f.0) c.unit.ensures.frame) cause.counted.never_falls c.undo-in-Err.ensures.turn c.undo-in-Err.ensures.root
          c.undo-in-Err.ensures.held;
      choice = tt;
      more = tt;
      crashes = leaves_around g.D.Disk.left_since g.D.Disk.told s.space.disk s1.space.disk s2.space.disk s3.space.disk c.begin.ensures.disk
          c.undo-in-Err.ensures.disk (c.what_a_crash_leaves_over_calls.ensures s1 s2 c.unit.ensures.frame);
      cause = subst (λ r. IfErr r (IsSpaceCaused (g.D.Disk.faults s.space.disk) (g.D.Disk.faults s3.space.disk))) c.in-Err.is cause.counted.caused;
      undamaged = λ volume holds.
          subst (λ r. IfErr r IsSpaceUndamaged) c.in-Err.is
          (told_so (λ _. None) (heap_of (contents s.space.pages.store) (g.D.Disk.told s.space.disk) s.space.books)
          (heap_of (contents s1.space.pages.store) (g.D.Disk.told s1.space.disk) s1.space.books)
          (heap_of (contents s2.space.pages.store) (g.D.Disk.told s2.space.disk) s2.space.books)
          (heap_of (contents s3.space.pages.store) (g.D.Disk.told s3.space.disk) s3.space.books) s.root s1.root s2.root s3.root c.args.last.0
          (g.D.Disk.faults s.space.disk) (g.D.Disk.faults s3.space.disk) c.requires.closed s.space.kept c.begin.ensures.turn c.begin.ensures.root
          (ap (λ f. f.0) c.unit.ensures.frame) cause.counted.never_falls (IfErr c.unit.result IsSpaceUndamaged) cause.undamaged volume holds);
      space = subst (λ r. IfErr r (IfNoSpace (LacksForChoice c.args.reblock.now.payloads.choice c.args.last.0
          (heap_of (contents s.space.pages.store) (g.D.Disk.told s.space.disk) s.space.books) s.root)))
          c.in-Err.is (lacks_begun (λ _. None) (heap_of (contents s.space.pages.store) (g.D.Disk.told s.space.disk) s.space.books)
          (heap_of (contents s1.space.pages.store) (g.D.Disk.told s1.space.disk) s1.space.books)
          (heap_of (contents s2.space.pages.store) (g.D.Disk.told s2.space.disk) s2.space.books)
          (heap_of (contents s3.space.pages.store) (g.D.Disk.told s3.space.disk) s3.space.books) s.root s1.root s2.root s3.root c.args.last.0
          (g.D.Disk.faults s.space.disk) (g.D.Disk.faults s3.space.disk) c.requires.closed s.space.kept c.begin.ensures.turn c.begin.ensures.root
          (ap (λ f. f.0) c.unit.ensures.frame) cause.counted.never_falls c.args.reblock.now.payloads.choice c.unit.result c.unit.ensures.store.no_space);
    }
