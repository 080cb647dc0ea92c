-- A unit of an open call is done.
use Rattle.std.proofs.Common.{ℕ, List, [], None, ap, false, length, refl, sym, subst, arith}
use Rattle.std.specs.Prelude.{IfErr, IfOk, slice_set, vec_capacity, vec_len}
use Rattle.std.proofs.Math.Logic.{∥∥₁_map}
use Rattle.hm_types.specs.Space.{IfNoSpace}
use Rattle.hm_pages.specs.Store.{contents}
use Rattle.hm_key.specs.Sweep.{place_from}
use Rattle.hm_relocate.specs.Unit.{Way}
use Rattle.hm_stored.specs.Heap.{heap_of}
use Rattle.hm_core.specs.Caused.{IsCausedWith}
use Rattle.hm_core.specs.Chosen.{LeavesAt}
use Rattle.hm_core.specs.Counts.{disk_counts}
use Rattle.hm_core.specs.Open.{ids_kept_by}
use Rattle.hm_core.specs.Running.{choice_of_work, open_job, open_jobs, open_work, way_of_work}
use Rattle.hm_core.specs.Seen.{seen, spare_of}
use Rattle.hm_core.specs.State.{OpenJob}
use Rattle.hm_core.specs.Unit.{LacksForChoice}
use Rattle.hm_core.proofs.CausedLemmas.{caused_later}
use Rattle.hm_core.proofs.CountLemmas.{disk_later}
use Rattle.hm_core.proofs.MovedLemmas.{moved_open, unit_pays}
use Rattle.hm_core.proofs.RunningLemmas.{as_many, found_read, open_is, place_has, told_others, told_read, told_worked, unit_same}
use Rattle.hm_core.proofs.StepLemmas.{closed_now}
use Rattle.hm_core.proofs.UnitFollowsLemmas.{kept_follows, kept_leaves_held, kept_uncounted, ordered_unit}
use Rattle.hm_core.proofs.WorkLemmas.{got_on, unit_does}
use Rattle.hm_core.proofs.volume.Core.do_unit.Goals as goal

pub index_mut-requires : goal.index_mut-requires
index_mut-requires g c =
    let s = c.args.self.now in
    let it = open_is c.args.opening.0 (seen s).running c.requires.runs in
    let within = (place_has c.args.opening.0 s.running.items it.0 it.1).within in
    let place = c.place_of-at.ensures in
    omega (arith, within, place)

pub work_over-result-requires : goal.work_over-result-requires
work_over-result-requires g c =
    let s = c.args.self.now in
    record {
      closed = closed_now s.flusher s.last.0 s.free
          (heap_of (contents s.stored.space.pages.store) (g.D.Disk.told s.stored.space.disk) s.stored.space.books) s.history.items s.ordered;
    }

pub invariant_of-self : goal.invariant_of-self
invariant_of-self g c =
    let s = c.args.self.now in
    let t = c.work_over-result.new.stored in
    let h = heap_of (contents s.stored.space.pages.store) (g.D.Disk.told s.stored.space.disk) s.stored.space.books in
    let h' = heap_of (contents t.space.pages.store) (g.D.Disk.told t.space.disk) t.space.books in
    let r = c.index_mut.result.now in
    let made = c.work_over-result.ensures in
    let many = as_many s.running.items c.place_of-at.result (record r { work = c.work_over-result.new.work }) in
    let placed = s.placed in
    let id = c.args.opening.0 in
    let found = found_read id s.running.items c.place_of-at.result r c.place_of-at.ensures c.index_mut.ensures.value c.requires.runs in
    record {
      placed = omega (arith, many, placed);
      numbered = s.numbered;
      ordered = ∥∥₁_map s.ordered (ordered_unit (ids_kept_by (open_work r.work)) (g.D.Disk.faults s.stored.space.disk)
          (g.D.Disk.faults t.space.disk) h h' s.stored.root t.root s.flusher s.last.0 s.free s.history.items made.leaves
          (unit_pays (open_work r.work) h h' s.history.items
          (moved_open s.first.0 (disk_counts s.start) (seen s).counts s.last.0 (seen s).running s.history.items s.caused id (open_job r) found) made.paid
          s.free (length s.history.items)));
      caused = ∥∥₁_map s.caused (λ so_far.
          subst (λ (ps : List OpenJob). IsCausedWith s.first.0 (disk_counts s.start) (disk_counts (g.D.Disk.faults t.space.disk)) s.last.0 ps
          s.history.items) (sym (unit_same s.running.items c.place_of-at.result r c.work_over-result.new.work c.index_mut.ensures.value made.work))
          (caused_later s.first.0 (disk_counts s.start) (seen s).counts (disk_counts (g.D.Disk.faults t.space.disk)) s.last.0 (seen s).running
          s.history.items so_far (disk_later (disk_counts 0) (seen s).counts.disk (g.D.Disk.faults t.space.disk) made.leaves.counted)));
    }

pub returns : goal.returns
unfolding heap_of
returns g c =
    let s = c.args.self.now in
    let t = c.work_over-result.new.stored in
    let h = heap_of (contents s.stored.space.pages.store) (g.D.Disk.told s.stored.space.disk) s.stored.space.books in
    let h' = heap_of (contents t.space.pages.store) (g.D.Disk.told t.space.disk) t.space.books in
    let r = c.index_mut.result.now in
    let made = c.work_over-result.ensures in
    let id = c.args.opening.0 in
    let w = c.work_over-result.new.work in
    let no_way : Way = record { payloads = place_from None; nodes = false } in
    let came = told_read no_way way_of_work id s.running.items c.place_of-at.result r c.place_of-at.ensures c.index_mut.ensures.value
    c.requires.runs in
    let comes = told_worked no_way way_of_work id s.running.items c.place_of-at.result r c.place_of-at.ensures c.index_mut.ensures.value
    c.requires.runs w in
    let had = told_read [] choice_of_work id s.running.items c.place_of-at.result r c.place_of-at.ensures c.index_mut.ensures.value c.requires.runs in
    let has = told_worked [] choice_of_work id s.running.items c.place_of-at.result r c.place_of-at.ensures c.index_mut.ensures.value c.requires.runs w in
    let worked = slice_set s.running.items c.place_of-at.result (record r { work = w }) in
    let found = found_read id s.running.items c.place_of-at.result r c.place_of-at.ensures c.index_mut.ensures.value c.requires.runs in
    let same = unit_same s.running.items c.place_of-at.result r w c.index_mut.ensures.value made.work in
    let room = ap (spare_of (vec_capacity s.history) (vec_len s.history))
    (as_many s.running.items c.place_of-at.result (record r { work = w })) in
    let past = g.D.Disk.left_since s.stored.space.disk in
    let since = g.D.Disk.left_since t.space.disk in
    let faults' = g.D.Disk.faults t.space.disk in
    record {
      does = unit_does id (seen s) _ (open_job r) found (record { history = refl; last = refl; running = same; spare = room }) refl
          c.work_over-result.result made.cause made.undamaged made.space made.done;
      more = got_on id (seen s) (open_job r) found h' t.root c.work_over-result.result _ _ (way_of_work r.work) (way_of_work w) _ _
          (choice_of_work r.work) (choice_of_work w) came comes had has made.more;
      others = λ other differs there. told_others [] choice_of_work id s.running.items c.place_of-at.result r c.place_of-at.ensures
          c.index_mut.ensures.value c.requires.runs w other differs;
      choice = subst (λ (x : List ℕ × List ℕ). IfOk c.work_over-result.result (LeavesAt x.0 x.1 h h')) (λ i. (sym had i, sym has i)) made.choice;
      space = subst (λ (x : List ℕ). IfErr c.work_over-result.result (IfNoSpace (LacksForChoice x s.last.0 h s.stored.root))) (sym had) made.moves;
      follows = kept_follows past since (seen s) h' t.root faults' id (open_job r) found c.core_is_sound.ensures made.leaves made.crashes
          (open_jobs worked) _ same room c.core_is_sound-2.ensures;
      uncounted = kept_uncounted past since (seen s) h' t.root faults' id (open_job r) found c.core_is_sound.ensures made.leaves made.crashes
          (open_jobs worked) _ same room c.core_is_sound-2.ensures;
      crashes = kept_leaves_held past since (seen s) h' t.root faults' id (open_job r) found c.core_is_sound.ensures made.leaves made.crashes
          (open_jobs worked) _ same room c.core_is_sound-2.ensures;
      live = made.leaves.live;
      streams = record { input = refl; output = refl };
    }
