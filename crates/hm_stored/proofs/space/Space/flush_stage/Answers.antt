-- A stage of a flush is made.
use Rattle.std.proofs.Common.{Result, Err, refl, sym, ◌∙◌, ap, subst}
use Rattle.std.proofs.Math.Logic.{∥∥₁_map}
use Rattle.std.proofs.lemmas.Result.{err_from_is_err_and}
use Rattle.hm_types.specs.Told.{BothTell}
use Rattle.hm_types.specs.declared.fault.Fault.{Fault}
use Rattle.hm_pages.specs.Store.{contents}
use Rattle.hm_flush.specs.declared.stage.Stage.{Stage}
use Rattle.hm_flush.specs.Ends.{StageTells}
use Rattle.hm_flush.specs.Group.{group_of}
use Rattle.hm_stored.specs.Flushed.{AreSoundPages, roots_after}
use Rattle.hm_stored.specs.Heap.{heap_of}
use Rattle.hm_stored.specs.Held.{AreOnlyOf}
use Rattle.hm_stored.specs.declared.roots.Roots.{Roots}
use Rattle.hm_stored.proofs.FlushLemmas.{current_then, flushed_by, flushed_kept, flushed_volume, layer2_then, ready_for}
use Rattle.hm_stored.proofs.VolumeLemmas.{volume_only}
use Rattle.hm_stored.proofs.space.Space.flush_stage.Goals as goal

pub pages_are_sound-requires-clause-only : goal.pages_are_sound-requires-clause-only
unfolding heap_of
pages_are_sound-requires-clause-only g c =
    let s = c.args.self.now in
    volume_only (heap_of (contents s.pages.store) (g.D.Disk.told s.disk) s.books) s.of_volume

pub pages_are_sound-requires-2-clause-only : goal.pages_are_sound-requires-2-clause-only
pages_are_sound-requires-2-clause-only g c =
    let s = c.args.self.now in
    let same = current_then c.args.now.now c.args.flusher.now c.stage.new.self (contents s.pages.store) (contents c.stage.new.pages) c.stage.result
    c.stage.ensures.ends in
    subst (AreOnlyOf s.books.bigblocks) (sym same) c.pages_are_sound.ensures.only

pub stage-requires-clause-ready : goal.stage-requires-clause-ready
unfolding heap_of
stage-requires-clause-ready g c =
    let s = c.args.self.now in
    ready_for c.args.flusher.now (heap_of (contents s.pages.store) (g.D.Disk.told s.disk) s.books) c.requires.ready s.of_volume

pub stage-requires-clause-stands : goal.stage-requires-clause-stands
unfolding heap_of
stage-requires-clause-stands g c = c.requires.ready.stands

pub invariant_of-self : goal.invariant_of-self
invariant_of-self g c =
    let s = c.args.self.now in
    let old = contents s.pages.store in
    let new = contents c.stage.new.pages in
    let told = g.D.Disk.told s.disk in
    let told' = g.D.Disk.told c.stage.new.disk in
    let f = c.args.flusher.now in
    let f' = c.stage.new.self in
    let sound = c.pages_are_sound.ensures.sound in
    record {
      there = layer2_then c.args.now.now f f' old new c.stage.result c.stage.ensures.ends s.books.bigblocks sound s.there;
      kept = ∥∥₁_map s.kept (flushed_kept c.args.now.now f f' old new told told' s.books s.books c.stage.result c.stage.ensures.ends c.requires.ready
          sound refl (g.D.Disk.left_since s.disk) (g.D.Disk.left_since c.stage.new.disk) c.stage.ensures.disk);
      of_volume = ∥∥₁_map s.of_volume (flushed_volume c.args.now.now f f' old new told told' s.books s.books c.stage.result c.stage.ensures.ends
          c.requires.ready sound refl);
    }

pub returns-in_err-stage-clause-ends : goal.returns-in_err-stage-clause-ends
unfolding heap_of
returns-in_err-stage-clause-ends g c =
    let s = c.args.self.now in
    let h = heap_of (contents s.pages.store) (g.D.Disk.told s.disk) s.books in
    let p = err_from_is_err_and c.from_residual.result c.from_residual.ensures.1 in
    record {
      ends = rw p.1 c.in_err-stage.ensures.ends;
      rest = ap (λ (r : Result Stage Fault). record h {
        pages = contents c.stage.new.pages;
        disk = g.D.Disk.told c.stage.new.disk;
        roots = roots_after c.args.flusher.now.at c.args.now.now r s.books.roots;
      }) (sym p.1);
      flush = c.flush_is_sound.ensures;
      ready = ready_for c.args.flusher.now h c.requires.ready s.of_volume;
      before = c.pages_are_sound.ensures;
      after = subst (AreSoundPages s.books.bigblocks) (sym c.in_err-stage.ensures.ends.store) c.pages_are_sound.ensures;
    }

pub returns-in_err-stage-clause-disk : goal.returns-in_err-stage-clause-disk
unfolding heap_of
returns-in_err-stage-clause-disk g c =
    let s = c.args.self.now in
    let p = err_from_is_err_and c.from_residual.result c.from_residual.ensures.1 in
    subst (λ (r : Result Stage Fault). BothTell (g.D.Disk.told s.disk) (g.D.Disk.told c.stage.new.disk)
    (StageTells c.args.flusher.now c.stage.new.self (contents s.pages.store) (contents c.stage.new.pages) r (g.D.Disk.left_since s.disk)
    (g.D.Disk.left_since c.stage.new.disk))) (c.in_err-stage.was ∙ (ap Err (sym p.2) ∙ sym p.1)) c.stage.ensures.disk

pub returns-in_err-stage-clause-ready : goal.returns-in_err-stage-clause-ready
unfolding heap_of
returns-in_err-stage-clause-ready g c =
    let s = c.args.self.now in
    flushed_by c.args.now.now c.args.flusher.now c.stage.new.self (heap_of (contents s.pages.store) (g.D.Disk.told s.disk) s.books)
    (contents c.stage.new.pages) (g.D.Disk.told c.stage.new.disk) s.books.roots c.stage.result c.stage.ensures.ends c.requires.ready c.stage.ensures.stands

pub invariant_of-self-4 : goal.invariant_of-self-4
invariant_of-self-4 g c =
    let s = c.args.self.now in
    let old = contents s.pages.store in
    let new = contents c.stage.new.pages in
    let told = g.D.Disk.told s.disk in
    let told' = g.D.Disk.told c.stage.new.disk in
    let f = c.args.flusher.now in
    let f' = c.stage.new.self in
    let sound = c.pages_are_sound.ensures.sound in
    record {
      there = layer2_then c.args.now.now f f' old new c.stage.result c.stage.ensures.ends s.books.bigblocks sound s.there;
      kept = ∥∥₁_map s.kept (flushed_kept c.args.now.now f f' old new told told' s.books _ c.stage.result c.stage.ensures.ends c.requires.ready
          sound refl (g.D.Disk.left_since s.disk) (g.D.Disk.left_since c.stage.new.disk) c.stage.ensures.disk);
      of_volume = ∥∥₁_map s.of_volume (flushed_volume c.args.now.now f f' old new told told' s.books _ c.stage.result c.stage.ensures.ends
          c.requires.ready sound refl);
    }

pub returns-clause-ends : goal.returns-clause-ends
unfolding heap_of
returns-clause-ends g c =
    let s = c.args.self.now in
    let h = heap_of (contents s.pages.store) (g.D.Disk.told s.disk) s.books in
    record {
      ends = c.in_ok-stage.ensures.ends;
      rest = ap (λ (r : Roots). record h { pages = contents c.stage.new.pages; disk = g.D.Disk.told c.stage.new.disk; roots = r })
          (c.moved-self.ensures c.args.flusher.now (group_of (contents s.pages.store)) c.in_ok-stage.ensures.ends.stage_is);
      flush = c.flush_is_sound.ensures;
      ready = ready_for c.args.flusher.now h c.requires.ready s.of_volume;
      before = c.pages_are_sound.ensures;
      after = c.pages_are_sound-2.ensures;
    }

pub returns-clause-disk : goal.returns-clause-disk
unfolding heap_of
returns-clause-disk g c = c.in_ok-stage.ensures.disk

pub returns-clause-ready : goal.returns-clause-ready
unfolding heap_of
returns-clause-ready g c =
    let s = c.args.self.now in
    flushed_by c.args.now.now c.args.flusher.now c.stage.new.self (heap_of (contents s.pages.store) (g.D.Disk.told s.disk) s.books)
    (contents c.stage.new.pages) (g.D.Disk.told c.stage.new.disk) c.moved-self.result c.stage.result c.stage.ensures.ends c.requires.ready
    c.stage.ensures.stands
