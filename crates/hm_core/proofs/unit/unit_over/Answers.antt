-- A unit of a prune is made, and kept or dropped.
use Rattle.std.proofs.Common.{refl, ap, subst}
use Rattle.std.specs.Prelude.{IfErr}
use Rattle.hm_types.specs.Faults.{IsCaused, IsUndamaged}
use Rattle.hm_pages.specs.Store.{contents}
use Rattle.hm_key.specs.Sweep.{place_from}
use Rattle.hm_prune.specs.Dead.{keeps_in}
use Rattle.hm_stored.specs.Heap.{heap_of}
use Rattle.hm_core.proofs.CrashLemmas.{leaves_around}
use Rattle.hm_core.proofs.TurnLemmas.{balanced_begun, begun_some}
use Rattle.hm_core.proofs.UnitLemmas.{dropped_pays, dropped_unit, gets_on, kept_ends, kept_pays, kept_unit}
use Rattle.hm_core.proofs.UnitLemmas.{none_dead_for, progress_done, same_kept, store_caused}
use Rattle.hm_core.proofs.UnitLemmas.{told_so}
use Rattle.hm_core.proofs.unit.unit_over.Goals as goal

pub unit-requires : goal.unit-requires
unit-requires g c =
    let s = c.args.stored.now in
    let s1 = c.begin.new.self in
    record {
      fits = balanced_begun (heap_of (contents s.space.pages.store) (g.D.Disk.told s.space.disk) s.space.books)
          (heap_of (contents s1.space.pages.store) (g.D.Disk.told s1.space.disk) s1.space.books) s.root s1.root c.args.last.0 c.requires.closed s.space.kept
          c.begin.ensures.turn c.begin.ensures.root;
    }

pub keep-requires-clause-opened : goal.keep-requires-clause-opened
unfolding heap_of
keep-requires-clause-opened g c =
    let s = c.args.stored.now in
    let s1 = c.begin.new.self in
    let s2 = c.unit.new.store in
    begun_some (heap_of (contents s.space.pages.store) (g.D.Disk.told s.space.disk) s.space.books)
    (heap_of (contents s1.space.pages.store) (g.D.Disk.told s1.space.disk) s1.space.books)
    (heap_of (contents s2.space.pages.store) (g.D.Disk.told s2.space.disk) s2.space.books) s.root c.args.last.0 c.begin.ensures.turn
    (ap (λ f. f.0) c.unit.ensures.frame)

pub undo-requires : goal.undo-requires
unfolding heap_of
undo-requires g c =
    let s = c.args.stored.now in
    let s1 = c.begin.new.self in
    let s2 = c.unit.new.store in
    record {
      opened = begun_some (heap_of (contents s.space.pages.store) (g.D.Disk.told s.space.disk) s.space.books)
          (heap_of (contents s1.space.pages.store) (g.D.Disk.told s1.space.disk) s1.space.books)
          (heap_of (contents s2.space.pages.store) (g.D.Disk.told s2.space.disk) s2.space.books) s.root c.args.last.0 c.begin.ensures.turn
          (ap (λ f. f.0) c.unit.ensures.frame);
    }

pub undo-requires-in-Err : goal.undo-requires-in-Err
unfolding heap_of
undo-requires-in-Err g c =
    let s = c.args.stored.now in
    let s1 = c.begin.new.self in
    let s2 = c.unit.new.store in
    record {
      opened = begun_some (heap_of (contents s.space.pages.store) (g.D.Disk.told s.space.disk) s.space.books)
          (heap_of (contents s1.space.pages.store) (g.D.Disk.told s1.space.disk) s1.space.books)
          (heap_of (contents s2.space.pages.store) (g.D.Disk.told s2.space.disk) s2.space.books) s.root c.args.last.0 c.begin.ensures.turn
          (ap (λ f. f.0) c.unit.ensures.frame);
    }

pub returns-in-Ok : goal.returns-in-Ok
unfolding heap_of
returns-in-Ok g c =
    let s = c.args.stored.now in
    let s1 = c.begin.new.self in
    let s2 = c.unit.new.store in
    let s3 = c.keep.new.self in
    let j = c.args.prune.now in
    let j' = c.unit.new.self in
    let same = same_kept j.pfs.0 j'.pfs.0 j.kept j'.kept c.unit.ensures.job.kept in
    let cause =
    store_caused _ _ _ (g.D.Disk.faults s.space.disk) (g.D.Disk.faults s3.space.disk) c.unit.result (ap g.D.Disk.faults c.begin.ensures.disk)
    (ap g.D.Disk.faults c.keep.ensures.disk) c.unit.ensures.cause in
    record {
      leaves = kept_unit (keeps_in j.pfs.0 j.kept) (heap_of (contents s.space.pages.store) (g.D.Disk.told s.space.disk) s.space.books)
          (heap_of (contents s1.space.pages.store) (g.D.Disk.told s1.space.disk) s1.space.books)
          (heap_of (contents s2.space.pages.store) (g.D.Disk.told s2.space.disk) s2.space.books)
          (heap_of (contents s3.space.pages.store) (g.D.Disk.told s3.space.disk) s3.space.books) s.root s1.root s2.root s3.root c.args.last.0
          (g.D.Disk.faults s.space.disk) (g.D.Disk.faults s3.space.disk) c.requires.closed s.space.kept c.begin.ensures.turn c.begin.ensures.root
          (ap (λ f. f.0) c.unit.ensures.frame) cause.counted.never_falls (c.can_keep.ensures.0 c.if-can_keep.true).whole c.keep.ensures.turn
          c.keep.ensures.content c.keep.ensures.root c.pages_are_bytes.ensures s2.tree c.in-Ok.ensures.store.content;
      paid = kept_pays (keeps_in j.pfs.0 j.kept) (heap_of (contents s.space.pages.store) (g.D.Disk.told s.space.disk) s.space.books)
          (heap_of (contents s1.space.pages.store) (g.D.Disk.told s1.space.disk) s1.space.books)
          (heap_of (contents s2.space.pages.store) (g.D.Disk.told s2.space.disk) s2.space.books)
          (heap_of (contents s3.space.pages.store) (g.D.Disk.told s3.space.disk) s3.space.books) s.root s1.root s2.root s3.root c.args.last.0
          (g.D.Disk.faults s.space.disk) (g.D.Disk.faults s3.space.disk) c.requires.closed s.space.kept c.begin.ensures.turn c.begin.ensures.root
          (ap (λ f. f.0) c.unit.ensures.frame) cause.counted.never_falls (c.can_keep.ensures.0 c.if-can_keep.true).whole c.keep.ensures.turn
          c.unit.ensures.store.free (c.unit.ensures.store.room refl);
      prune = same;
      done = λ is. kept_ends (keeps_in j.pfs.0 j.kept) (heap_of (contents s.space.pages.store) (g.D.Disk.told s.space.disk) s.space.books)
          (heap_of (contents s1.space.pages.store) (g.D.Disk.told s1.space.disk) s1.space.books)
          (heap_of (contents s2.space.pages.store) (g.D.Disk.told s2.space.disk) s2.space.books)
          (heap_of (contents s3.space.pages.store) (g.D.Disk.told s3.space.disk) s3.space.books) s.root s1.root s2.root s3.root c.args.last.0
          (g.D.Disk.faults s.space.disk) (g.D.Disk.faults s3.space.disk) c.requires.closed s.space.kept c.begin.ensures.turn c.begin.ensures.root
          (ap (λ f. f.0) c.unit.ensures.frame) cause.counted.never_falls (c.can_keep.ensures.0 c.if-can_keep.true).whole c.keep.ensures.turn
          c.keep.ensures.content c.keep.ensures.root c.pages_are_bytes.ensures s2.tree c.in-Ok.ensures.store.content j.pfs.0 j.kept
          (none_dead_for j.pfs.0 j'.pfs.0 j.kept j'.kept same _ (progress_done _ _ _ is c.in-Ok.ensures.progress).1);
      more = gets_on (keeps_in j.pfs.0 j.kept) (heap_of (contents s.space.pages.store) (g.D.Disk.told s.space.disk) s.space.books)
          (heap_of (contents s1.space.pages.store) (g.D.Disk.told s1.space.disk) s1.space.books)
          (heap_of (contents s2.space.pages.store) (g.D.Disk.told s2.space.disk) s2.space.books)
          (heap_of (contents s3.space.pages.store) (g.D.Disk.told s3.space.disk) s3.space.books) s.root s1.root s2.root s3.root c.args.last.0
          (g.D.Disk.faults s.space.disk) (g.D.Disk.faults s3.space.disk) c.requires.closed s.space.kept c.begin.ensures.turn c.begin.ensures.root
          (ap (λ f. f.0) c.unit.ensures.frame) cause.counted.never_falls (c.can_keep.ensures.0 c.if-can_keep.true).whole c.keep.ensures.turn
          c.keep.ensures.content c.keep.ensures.root c.pages_are_bytes.ensures s2.tree c.in-Ok.ensures.store.content (place_from j.from)
          (place_from j'.from) c.in-Ok.progress c.in-Ok.ensures.more;
      crashes = leaves_around g.D.Disk.left_since g.D.Disk.told s.space.disk s1.space.disk s2.space.disk s3.space.disk c.begin.ensures.disk
          c.keep.ensures.disk (c.what_a_crash_leaves_over_calls.ensures s1 s2 c.unit.ensures.frame);
      cause = tt;
      undamaged = λ volume holds. tt;
    }

pub returns-in-Ok-2 : goal.returns-in-Ok-2
unfolding heap_of
returns-in-Ok-2 g c =
    let s = c.args.stored.now in
    let s1 = c.begin.new.self in
    let s2 = c.unit.new.store in
    let s3 = c.undo.new.self in
    let j = c.args.prune.now in
    let cause =
    store_caused _ _ _ (g.D.Disk.faults s.space.disk) (g.D.Disk.faults s3.space.disk) c.unit.result (ap g.D.Disk.faults c.begin.ensures.disk)
    (ap g.D.Disk.faults c.undo.ensures.disk) c.unit.ensures.cause in
    record {
      leaves = dropped_unit (keeps_in j.pfs.0 j.kept) (heap_of (contents s.space.pages.store) (g.D.Disk.told s.space.disk) s.space.books)
          (heap_of (contents s1.space.pages.store) (g.D.Disk.told s1.space.disk) s1.space.books)
          (heap_of (contents s2.space.pages.store) (g.D.Disk.told s2.space.disk) s2.space.books)
          (heap_of (contents s3.space.pages.store) (g.D.Disk.told s3.space.disk) s3.space.books) s.root s1.root s2.root s3.root c.args.last.0
          (g.D.Disk.faults s.space.disk) (g.D.Disk.faults s3.space.disk) c.requires.closed s.space.kept c.begin.ensures.turn c.begin.ensures.root
          (ap (λ f. f.0) c.unit.ensures.frame) cause.counted.never_falls c.undo.ensures.turn c.undo.ensures.root c.undo.ensures.held;
      paid = dropped_pays (keeps_in j.pfs.0 j.kept) (heap_of (contents s.space.pages.store) (g.D.Disk.told s.space.disk) s.space.books)
          (heap_of (contents s1.space.pages.store) (g.D.Disk.told s1.space.disk) s1.space.books)
          (heap_of (contents s2.space.pages.store) (g.D.Disk.told s2.space.disk) s2.space.books)
          (heap_of (contents s3.space.pages.store) (g.D.Disk.told s3.space.disk) s3.space.books) s.root s1.root s2.root s3.root c.args.last.0
          (g.D.Disk.faults s.space.disk) (g.D.Disk.faults s3.space.disk) c.requires.closed s.space.kept c.begin.ensures.turn c.begin.ensures.root
          (ap (λ f. f.0) c.unit.ensures.frame) cause.counted.never_falls c.undo.ensures.turn;
      prune = same_kept _ _ _ _ c.unit.ensures.job.kept;
      done = tt;
      more = tt;
      crashes = leaves_around g.D.Disk.left_since g.D.Disk.told s.space.disk s1.space.disk s2.space.disk s3.space.disk c.begin.ensures.disk
          c.undo.ensures.disk (c.what_a_crash_leaves_over_calls.ensures s1 s2 c.unit.ensures.frame);
      cause = tt;
      undamaged = λ volume holds. tt;
    }

pub returns-in-Err : goal.returns-in-Err
unfolding heap_of
returns-in-Err g c =
    let s = c.args.stored.now in
    let s1 = c.begin.new.self in
    let s2 = c.unit.new.store in
    let s3 = c.undo-in-Err.new.self in
    let j = c.args.prune.now in
    let cause =
    store_caused _ _ _ (g.D.Disk.faults s.space.disk) (g.D.Disk.faults s3.space.disk) c.unit.result (ap g.D.Disk.faults c.begin.ensures.disk)
    (ap g.D.Disk.faults c.undo-in-Err.ensures.disk) c.unit.ensures.cause in
    record {
      leaves = dropped_unit (keeps_in j.pfs.0 j.kept) (heap_of (contents s.space.pages.store) (g.D.Disk.told s.space.disk) s.space.books)
          (heap_of (contents s1.space.pages.store) (g.D.Disk.told s1.space.disk) s1.space.books)
          (heap_of (contents s2.space.pages.store) (g.D.Disk.told s2.space.disk) s2.space.books)
          (heap_of (contents s3.space.pages.store) (g.D.Disk.told s3.space.disk) s3.space.books) s.root s1.root s2.root s3.root c.args.last.0
          (g.D.Disk.faults s.space.disk) (g.D.Disk.faults s3.space.disk) c.requires.closed s.space.kept c.begin.ensures.turn c.begin.ensures.root
          (ap (λ f. f.0) c.unit.ensures.frame) cause.counted.never_falls c.undo-in-Err.ensures.turn c.undo-in-Err.ensures.root
          c.undo-in-Err.ensures.held;
      paid = dropped_pays (keeps_in j.pfs.0 j.kept) (heap_of (contents s.space.pages.store) (g.D.Disk.told s.space.disk) s.space.books)
          (heap_of (contents s1.space.pages.store) (g.D.Disk.told s1.space.disk) s1.space.books)
          (heap_of (contents s2.space.pages.store) (g.D.Disk.told s2.space.disk) s2.space.books)
          (heap_of (contents s3.space.pages.store) (g.D.Disk.told s3.space.disk) s3.space.books) s.root s1.root s2.root s3.root c.args.last.0
          (g.D.Disk.faults s.space.disk) (g.D.Disk.faults s3.space.disk) c.requires.closed s.space.kept c.begin.ensures.turn c.begin.ensures.root
          (ap (λ f. f.0) c.unit.ensures.frame) cause.counted.never_falls c.undo-in-Err.ensures.turn;
      prune = same_kept _ _ _ _ c.unit.ensures.job.kept;
      done = tt;
      more = tt;
      crashes = leaves_around g.D.Disk.left_since g.D.Disk.told s.space.disk s1.space.disk s2.space.disk s3.space.disk c.begin.ensures.disk
          c.undo-in-Err.ensures.disk (c.what_a_crash_leaves_over_calls.ensures s1 s2 c.unit.ensures.frame);
      cause = subst (λ r. IfErr r (IsCaused (g.D.Disk.faults s.space.disk) (g.D.Disk.faults s3.space.disk))) c.in-Err.is cause.counted.caused;
      undamaged = λ volume holds.
          subst (λ r. IfErr r IsUndamaged) c.in-Err.is
          (told_so (keeps_in j.pfs.0 j.kept) (heap_of (contents s.space.pages.store) (g.D.Disk.told s.space.disk) s.space.books)
          (heap_of (contents s1.space.pages.store) (g.D.Disk.told s1.space.disk) s1.space.books)
          (heap_of (contents s2.space.pages.store) (g.D.Disk.told s2.space.disk) s2.space.books)
          (heap_of (contents s3.space.pages.store) (g.D.Disk.told s3.space.disk) s3.space.books) s.root s1.root s2.root s3.root c.args.last.0
          (g.D.Disk.faults s.space.disk) (g.D.Disk.faults s3.space.disk) c.requires.closed s.space.kept c.begin.ensures.turn c.begin.ensures.root
          (ap (λ f. f.0) c.unit.ensures.frame) cause.counted.never_falls (IfErr c.unit.result IsUndamaged) cause.undamaged volume holds);
    }
