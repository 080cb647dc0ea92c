-- The stage that is due is made.
use Rattle.std.proofs.Common.{rules, refl, subst}
use Rattle.std.proofs.Math.Logic.{∥∥₁_map}
use Rattle.hm_header.specs.declared.header.Header.{Header}
use Rattle.hm_stored.specs.Flushed.{FlushesSpace}
use Rattle.hm_stored.specs.Heap.{heap_of}
use Rattle.hm_stored.specs.Space.{heap}
use Rattle.hm_core.specs.Counts.{disk_counts}
use Rattle.hm_core.specs.Seen.{seen}
use Rattle.hm_core.proofs.CausedLemmas.{caused_later}
use Rattle.hm_core.proofs.CountLemmas.{disk_later, later_same}
use Rattle.hm_core.proofs.EndLemmas.{stage_settles}
use Rattle.hm_core.proofs.StageLemmas.{IsLeftBy, ordered_staged, stage_follows, stage_goes_on, stage_leaves, stage_live, stage_tree}
use Rattle.hm_core.proofs.StepLemmas.{flushed_now}
use Rattle.hm_core.proofs.volume.Core.make_stage.Goals as goal

pub flush_stage-result-requires-clause-ready : goal.flush_stage-result-requires-clause-ready
flush_stage-result-requires-clause-ready g c =
    let s = c.args.self.now in
    flushed_now s.flusher s.last.0 s.free (heap s.stored.space) s.history.items s.ordered

pub invariant_of-self : goal.invariant_of-self
invariant_of-self g c =
    let s = c.args.self.now in
    let t = c.flush_stage-result.new.self in
    let made = c.flush_stage-result.ensures in
    let f' = c.flush_stage-result.new.flusher in
    let h = heap s.stored.space in
    let h' = heap t.space in
    let result = c.flush_stage-result.result in
    let flushes = subst (λ (x : Header). FlushesSpace x s.flusher f' h h' result) c.header_now-now.ensures.value made.ends in
    record {
      placed = s.placed;
      numbered = s.numbered;
      ordered = ∥∥₁_map s.ordered (ordered_staged (seen s) f' h' result flushes made.ready);
      caused = ∥∥₁_map s.caused (λ so_far.
          caused_later s.first.0 (disk_counts s.start) (seen s).counts (disk_counts (g.D.Disk.faults t.space.disk)) s.last.0 (seen s).running
          s.history.items so_far
          (disk_later (disk_counts 0) (seen s).counts.disk (g.D.Disk.faults t.space.disk) made.cause.counted.never_falls));
    }

pub returns : goal.returns
unfolding heap_of
returns g c =
    let s = c.args.self.now in
    let t = c.flush_stage-result.new.self in
    let made = c.flush_stage-result.ensures in
    let f' = c.flush_stage-result.new.flusher in
    let h = heap s.stored.space in
    let h' = heap t.space in
    let result = c.flush_stage-result.result in
    let past = g.D.Disk.left_since s.stored.space.disk in
    let since = g.D.Disk.left_since t.space.disk in
    let counts = disk_counts (g.D.Disk.faults t.space.disk) in
    let later = disk_later (disk_counts 0) (seen s).counts.disk (g.D.Disk.faults t.space.disk) made.cause.counted.never_falls in
    let flushes = subst (λ (x : Header). FlushesSpace x s.flusher f' h h' result) c.header_now-now.ensures.value made.ends in
    let left : IsLeftBy past since h.disk h'.disk =
    record { only = g.met.D.Disk.only_now s.stored.space.disk; earlier = g.met.D.Disk.since_earlier t.space.disk } in
    record {
      stage = search rules;
      running = refl;
      tree = stage_tree (seen s) f' h' result flushes _ _ t.root made.root;
      follows = stage_follows (seen s) f' h' counts result past since flushes made.disk left later s.ordered refl t.root made.root c.core_is_sound.ensures;
      uncounted = stage_goes_on (seen s) f' h' (seen s).counts result past since flushes made.disk left (later_same (seen s).counts) s.ordered refl t.root
          made.root;
      crashes = stage_leaves (seen s) f' h' counts result past since flushes made.disk left later s.ordered;
      live = stage_live (seen s) f' h' counts result past since flushes made.disk left later s.ordered;
      settled = stage_settles c.header_now-now.result s.flusher f' h.pages h'.pages past since h.disk h'.disk result made.ends.ends made.disk;
      streams = search rules;
      cause = search rules;
    }
