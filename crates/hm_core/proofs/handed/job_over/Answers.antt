-- A unit of a job that was handed in is made, and kept or dropped.
use Rattle.std.proofs.Common.{None, ap, subst, sym, true≢false, ◌∙◌}
use Rattle.std.specs.Prelude.{IfErr}
use Rattle.hm_types.specs.Faults.{IsCaused, IsUndamaged}
use Rattle.hm_pages.specs.Store.{contents}
use Rattle.hm_stored.specs.Heap.{heap_of}
use Rattle.hm_stored.specs.Laws.{live_told}
use Rattle.hm_core.proofs.CrashLemmas.{leaves_around}
use Rattle.hm_core.proofs.HandedLemmas.{as_before, done_keepable, dropped_known, kept_known, opened_alike, progress_as, works_none}
use Rattle.hm_core.proofs.TurnLemmas.{begun_some}
use Rattle.hm_core.proofs.UnitLemmas.{dropped_pays, dropped_unit, kept_pays, kept_unit, store_caused, told_so}
use Rattle.hm_core.proofs.handed.job_over.Goals as goal

pub unit-requires : goal.unit-requires
unfolding heap_of
unit-requires g c = record {
  fits = c.requires.fits c.begin.new.self
      (record { turn = c.begin.ensures.turn; root = c.begin.ensures.root; disk = c.begin.ensures.disk });
}

pub keep-requires-clause-opened : goal.keep-requires-clause-opened
unfolding heap_of
keep-requires-clause-opened g c =
    let s = c.args.stored.now in
    let s1 = c.begin.new.self in
    let s2 = c.unit.new.store in
    begun_some (heap_of (contents s.space.pages.store) (g.D.Disk.told s.space.disk) s.space.books)
    (heap_of (contents s1.space.pages.store) (g.D.Disk.told s1.space.disk) s1.space.books)
    (heap_of (contents s2.space.pages.store) (g.D.Disk.told s2.space.disk) s2.space.books) s.root c.args.last.0 c.begin.ensures.turn
    (ap (λ f. f.0) c.unit.ensures.frame)

pub undo-requires : goal.undo-requires
unfolding heap_of
undo-requires g c =
    let s = c.args.stored.now in
    let s1 = c.begin.new.self in
    let s2 = c.unit.new.store in
    record {
      opened = begun_some (heap_of (contents s.space.pages.store) (g.D.Disk.told s.space.disk) s.space.books)
          (heap_of (contents s1.space.pages.store) (g.D.Disk.told s1.space.disk) s1.space.books)
          (heap_of (contents s2.space.pages.store) (g.D.Disk.told s2.space.disk) s2.space.books) s.root c.args.last.0 c.begin.ensures.turn
          (ap (λ f. f.0) c.unit.ensures.frame);
    }

pub undo-requires-in-Err : goal.undo-requires-in-Err
unfolding heap_of
undo-requires-in-Err g c =
    let s = c.args.stored.now in
    let s1 = c.begin.new.self in
    let s2 = c.unit.new.store in
    record {
      opened = begun_some (heap_of (contents s.space.pages.store) (g.D.Disk.told s.space.disk) s.space.books)
          (heap_of (contents s1.space.pages.store) (g.D.Disk.told s1.space.disk) s1.space.books)
          (heap_of (contents s2.space.pages.store) (g.D.Disk.told s2.space.disk) s2.space.books) s.root c.args.last.0 c.begin.ensures.turn
          (ap (λ f. f.0) c.unit.ensures.frame);
    }

pub returns-in-Ok : goal.returns-in-Ok
unfolding heap_of
returns-in-Ok g c =
    let s = c.args.stored.now in
    let s1 = c.begin.new.self in
    let s2 = c.unit.new.store in
    let s3 = c.keep.new.self in
    let h = heap_of (contents s.space.pages.store) (g.D.Disk.told s.space.disk) s.space.books in
    let h1 = heap_of (contents s1.space.pages.store) (g.D.Disk.told s1.space.disk) s1.space.books in
    let h2 = heap_of (contents s2.space.pages.store) (g.D.Disk.told s2.space.disk) s2.space.books in
    let h3 = heap_of (contents s3.space.pages.store) (g.D.Disk.told s3.space.disk) s3.space.books in
    let last = c.args.last.0 in
    let faults = g.D.Disk.faults s.space.disk in
    let faults' = g.D.Disk.faults s3.space.disk in
    let closed = c.requires.closed in
    let kept = s.space.kept in
    let opens = c.begin.ensures.turn in
    let same = c.begin.ensures.root in
    let frame = ap (λ f. f.0) c.unit.ensures.frame in
    let j = c.args.job.now in
    let j' = c.unit.new.self in
    let whole = (c.can_keep.ensures.0 c.if-can_keep.true).whole in
    let works = works_none (g.J.Job.kept j) h1 h2 s1.root s2.root c.requires.kept c.in-Ok.ensures.store.content in
    let cause = store_caused _ _ _ faults faults' c.unit.result (ap g.D.Disk.faults c.begin.ensures.disk) (ap g.D.Disk.faults c.keep.ensures.disk)
    c.unit.ensures.cause in
    record {
      leaves = kept_unit (λ _. None) h h1 h2 h3 s.root s1.root s2.root s3.root last faults faults' closed kept opens same frame
          cause.counted.never_falls whole c.keep.ensures.turn c.keep.ensures.content c.keep.ensures.root c.pages_are_bytes.ensures s2.tree works;
      paid = kept_pays (λ _. None) h h1 h2 h3 s.root s1.root s2.root s3.root last faults faults' closed kept opens same frame
          cause.counted.never_falls whole c.keep.ensures.turn c.unit.ensures.store.free (c.unit.ensures.store.room c.requires.places);
      known = kept_known h h1 h2 h3 s.root s1.root s2.root s3.root last closed kept opens same frame works whole c.keep.ensures.turn
          c.keep.ensures.content c.keep.ensures.root s2.tree;
      goes = λ t begins knew.
          let h4 = heap_of (contents t.space.pages.store) (g.D.Disk.told t.space.disk) t.space.books in
          let alike = opened_alike h h1 h2 h3 s.root s1.root s2.root s3.root last closed kept opens same frame works whole
          c.keep.ensures.turn c.keep.ensures.content c.keep.ensures.root s2.tree h4 t.root s3.space.kept begins.turn begins.root
          (live_told h2 s2.space.kept) (live_told h4 t.space.kept) knew in
          let looks = g.met.J.Job.looks j' s2 t
          (record { elements = alike.elements; marks = alike.marks; extents = alike.extents; room = alike.room }) in
          progress_as _ _ _ _ c.in-Ok.progress looks.1 looks.2 c.in-Ok.ensures.progress;
      dropped = tt;
      tells = (c.unit.ensures.job.kept, c.unit.ensures.job.places);
      job = λ had. record { err = tt; place = tt; kept = c.unit.ensures.job.kept; places = c.unit.ensures.job.places };
      crashes = leaves_around g.D.Disk.left_since g.D.Disk.told s.space.disk s1.space.disk s2.space.disk s3.space.disk c.begin.ensures.disk
          c.keep.ensures.disk (c.what_a_crash_leaves_over_calls.ensures s1 s2 c.unit.ensures.frame);
      cause = tt;
      undamaged = λ volume holds. tt;
    }

pub returns-in-Ok-2 : goal.returns-in-Ok-2
unfolding heap_of
returns-in-Ok-2 g c =
    let s = c.args.stored.now in
    let s1 = c.begin.new.self in
    let s2 = c.unit.new.store in
    let s3 = c.undo.new.self in
    let h = heap_of (contents s.space.pages.store) (g.D.Disk.told s.space.disk) s.space.books in
    let h1 = heap_of (contents s1.space.pages.store) (g.D.Disk.told s1.space.disk) s1.space.books in
    let h2 = heap_of (contents s2.space.pages.store) (g.D.Disk.told s2.space.disk) s2.space.books in
    let h3 = heap_of (contents s3.space.pages.store) (g.D.Disk.told s3.space.disk) s3.space.books in
    let last = c.args.last.0 in
    let faults = g.D.Disk.faults s.space.disk in
    let faults' = g.D.Disk.faults s3.space.disk in
    let closed = c.requires.closed in
    let kept = s.space.kept in
    let opens = c.begin.ensures.turn in
    let same = c.begin.ensures.root in
    let frame = ap (λ f. f.0) c.unit.ensures.frame in
    let j = c.args.job.now in
    let works = works_none (g.J.Job.kept j) h1 h2 s1.root s2.root c.requires.kept c.in-Ok.ensures.store.content in
    let cause = store_caused _ _ _ faults faults' c.unit.result (ap g.D.Disk.faults c.begin.ensures.disk) (ap g.D.Disk.faults c.undo.ensures.disk)
    c.unit.ensures.cause in
    record {
      leaves = dropped_unit (λ _. None) h h1 h2 h3 s.root s1.root s2.root s3.root last faults faults' closed kept opens same frame
          cause.counted.never_falls c.undo.ensures.turn c.undo.ensures.root c.undo.ensures.held;
      paid = dropped_pays (λ _. None) h h1 h2 h3 s.root s1.root s2.root s3.root last faults faults' closed kept opens same frame
          cause.counted.never_falls c.undo.ensures.turn;
      known = dropped_known h h1 h2 h3 s.root s1.root s2.root s3.root last closed kept opens same frame c.undo.ensures.turn c.undo.ensures.held;
      goes = tt;
      dropped = as_before h h1 h2 h3 s.root s1.root s2.root s3.root last closed kept opens same frame c.undo.ensures.turn c.undo.ensures.root;
      tells = (c.unit.ensures.job.kept, c.unit.ensures.job.places);
      job = λ had. absurd (let keepable = done_keepable h h1 h2 h3 s.root s1.root s2.root s3.root last closed kept opens same frame works s2.space.kept
          s2.tree had in true≢false (sym (c.can_keep.ensures.1 keepable) ∙ c.if-can_keep.false));
      crashes = leaves_around g.D.Disk.left_since g.D.Disk.told s.space.disk s1.space.disk s2.space.disk s3.space.disk c.begin.ensures.disk
          c.undo.ensures.disk (c.what_a_crash_leaves_over_calls.ensures s1 s2 c.unit.ensures.frame);
      cause = tt;
      undamaged = λ volume holds. tt;
    }

pub returns-in-Err : goal.returns-in-Err
unfolding heap_of
returns-in-Err g c =
    let s = c.args.stored.now in
    let s1 = c.begin.new.self in
    let s2 = c.unit.new.store in
    let s3 = c.undo-in-Err.new.self in
    let h = heap_of (contents s.space.pages.store) (g.D.Disk.told s.space.disk) s.space.books in
    let h1 = heap_of (contents s1.space.pages.store) (g.D.Disk.told s1.space.disk) s1.space.books in
    let h2 = heap_of (contents s2.space.pages.store) (g.D.Disk.told s2.space.disk) s2.space.books in
    let h3 = heap_of (contents s3.space.pages.store) (g.D.Disk.told s3.space.disk) s3.space.books in
    let last = c.args.last.0 in
    let faults = g.D.Disk.faults s.space.disk in
    let faults' = g.D.Disk.faults s3.space.disk in
    let closed = c.requires.closed in
    let kept = s.space.kept in
    let opens = c.begin.ensures.turn in
    let same = c.begin.ensures.root in
    let frame = ap (λ f. f.0) c.unit.ensures.frame in
    let cause = store_caused _ _ _ faults faults' c.unit.result (ap g.D.Disk.faults c.begin.ensures.disk)
    (ap g.D.Disk.faults c.undo-in-Err.ensures.disk) c.unit.ensures.cause in
    record {
      leaves = dropped_unit (λ _. None) h h1 h2 h3 s.root s1.root s2.root s3.root last faults faults' closed kept opens same frame
          cause.counted.never_falls c.undo-in-Err.ensures.turn c.undo-in-Err.ensures.root c.undo-in-Err.ensures.held;
      paid = dropped_pays (λ _. None) h h1 h2 h3 s.root s1.root s2.root s3.root last faults faults' closed kept opens same frame
          cause.counted.never_falls c.undo-in-Err.ensures.turn;
      known = dropped_known h h1 h2 h3 s.root s1.root s2.root s3.root last closed kept opens same frame c.undo-in-Err.ensures.turn
          c.undo-in-Err.ensures.held;
      goes = tt;
      dropped = as_before h h1 h2 h3 s.root s1.root s2.root s3.root last closed kept opens same frame c.undo-in-Err.ensures.turn
          c.undo-in-Err.ensures.root;
      tells = (c.unit.ensures.job.kept, c.unit.ensures.job.places);
      job = λ had. c.in-Err.ensures.job;
      crashes = leaves_around g.D.Disk.left_since g.D.Disk.told s.space.disk s1.space.disk s2.space.disk s3.space.disk c.begin.ensures.disk
          c.undo-in-Err.ensures.disk (c.what_a_crash_leaves_over_calls.ensures s1 s2 c.unit.ensures.frame);
      cause = subst (λ r. IfErr r (IsCaused faults faults')) c.in-Err.is cause.counted.caused;
      undamaged = λ volume holds.
          subst (λ r. IfErr r IsUndamaged) c.in-Err.is
          (told_so (λ _. None) h h1 h2 h3 s.root s1.root s2.root s3.root last faults faults' closed kept opens same frame
          cause.counted.never_falls (IfErr c.unit.result IsUndamaged) cause.undamaged volume holds);
    }
