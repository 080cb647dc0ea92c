-- A unit of a job that was handed in is done.
use Rattle.std.proofs.Common.{None, refl}
use Rattle.std.proofs.Math.Logic.{∥∥₁_map}
use Rattle.hm_pages.specs.Store.{contents}
use Rattle.hm_stored.specs.Heap.{heap_of}
use Rattle.hm_core.specs.Counts.{disk_counts}
use Rattle.hm_core.specs.Seen.{seen}
use Rattle.hm_core.proofs.CausedLemmas.{caused_later}
use Rattle.hm_core.proofs.CountLemmas.{disk_later}
use Rattle.hm_core.proofs.HandedLemmas.{fails_with}
use Rattle.hm_core.proofs.StepLemmas.{closed_now}
use Rattle.hm_core.proofs.UnitFollowsLemmas.{ordered_unit, unit_follows, unit_leaves_held}
use Rattle.hm_core.proofs.volume.Core.do_handed.Goals as goal

pub job_over-result-requires : goal.job_over-result-requires
job_over-result-requires g c =
    let s = c.args.self.now in
    record {
      closed = closed_now s.flusher s.last.0 s.free
          (heap_of (contents s.stored.space.pages.store) (g.D.Disk.told s.stored.space.disk) s.stored.space.books) s.history.items s.ordered;
      fits = c.requires.fits;
      kept = c.requires.kept;
      places = c.requires.places;
    }

pub invariant_of-self : goal.invariant_of-self
invariant_of-self g c =
    let s = c.args.self.now in
    let t = c.job_over-result.new.stored in
    let h = heap_of (contents s.stored.space.pages.store) (g.D.Disk.told s.stored.space.disk) s.stored.space.books in
    let h' = heap_of (contents t.space.pages.store) (g.D.Disk.told t.space.disk) t.space.books in
    let made = c.job_over-result.ensures in
    record {
      placed = s.placed;
      numbered = s.numbered;
      ordered = ∥∥₁_map s.ordered (ordered_unit (λ _. None) (g.D.Disk.faults s.stored.space.disk) (g.D.Disk.faults t.space.disk) h h' s.stored.root t.root
          s.flusher s.last.0 s.free s.history.items made.leaves (λ none. made.paid s.free _));
      caused = ∥∥₁_map s.caused (λ so_far.
          caused_later s.first.0 (disk_counts s.start) (seen s).counts (disk_counts (g.D.Disk.faults t.space.disk)) s.last.0 (seen s).running
          s.history.items so_far (disk_later (disk_counts 0) (seen s).counts.disk (g.D.Disk.faults t.space.disk) made.leaves.counted));
    }

pub returns : goal.returns
unfolding heap_of
returns g c =
    let s = c.args.self.now in
    let t = c.job_over-result.new.stored in
    let h' = heap_of (contents t.space.pages.store) (g.D.Disk.told t.space.disk) t.space.books in
    let made = c.job_over-result.ensures in
    let past = g.D.Disk.left_since s.stored.space.disk in
    let since = g.D.Disk.left_since t.space.disk in
    let faults' = g.D.Disk.faults t.space.disk in
    record {
      waits = record { history = refl; last = refl; running = refl; spare = refl };
      does = record { flush = refl; known = made.known; dropped = made.dropped };
      fails = fails_with (seen s) _ c.job_over-result.result made.cause made.undamaged;
      goes = made.goes;
      tells = made.tells;
      job = made.job;
      running = refl;
      follows = unit_follows past since (seen s) h' t.root faults' (λ _. None) (λ state opened pfs system there. tt) c.core_is_sound.ensures made.leaves
          made.crashes c.core_is_sound-2.ensures;
      crashes = unit_leaves_held past since (seen s) h' t.root faults' (λ _. None) (λ state opened pfs system there. tt) c.core_is_sound.ensures
          made.leaves made.crashes c.core_is_sound-2.ensures;
      live = made.leaves.live;
      streams = record { input = refl; output = refl };
    }
