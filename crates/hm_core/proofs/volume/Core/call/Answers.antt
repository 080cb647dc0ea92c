-- A call is answered and entered, and what it opened is open.
use Rattle.std.proofs.Common.{rules, ◌≡◌, ◌+◌, ◌-◌, ◌<◌, ◌≤◌, List, [], ◌∷◌, ◌++◌, ◌∙◌, None, Some, ap, length, refl, sym, slice_get, subst, arith}
use Rattle.std.specs.Prelude.{vec_capacity, vec_len}
use Rattle.std.proofs.lemmas.List.{length-map}
use Rattle.hm_types.specs.declared.limits.TheConstants.{GREATEST_ID}
use Rattle.std.proofs.Math.Logic.{∥∥₁_map}
use Rattle.hm_model.specs.declared.entry.Entry.{Entry}
use Rattle.hm_model.specs.declared.reply.Reply.TheVariants.{Done}
use Rattle.hm_pages.specs.Store.{contents}
use Rattle.hm_stored.specs.Heap.{heap_of}
use Rattle.hm_state.specs.Live.{NoByte}
use Rattle.hm_state.proofs.LiveLemmas.{live_same}
use Rattle.hm_core.specs.Answer.{job_of}
use Rattle.hm_core.specs.Caused.{IsCausedWith}
use Rattle.hm_core.specs.Core.{NeedsFlush}
use Rattle.hm_core.specs.Counts.{disk_counts}
use Rattle.hm_core.specs.Inside.{IsInOrder}
use Rattle.hm_core.specs.Numbers.{numbers_told}
use Rattle.hm_core.specs.Replied.{IsReplied}
use Rattle.hm_core.specs.Chosen.{BeginsBy}
use Rattle.hm_core.specs.Running.{choice_among, choice_of_work, open_job, open_jobs, open_work}
use Rattle.hm_core.specs.Seen.{seen, spare_of}
use Rattle.hm_core.specs.State.{OpenJob}
use Rattle.hm_core.specs.declared.running.Running.{Running}
use Rattle.hm_core.proofs.CallLeavesLemmas.{call_follows, call_leads, call_leaves_held}
use Rattle.hm_core.proofs.CoreLemmas.{follows_itself}
use Rattle.hm_core.proofs.CausedLemmas.{an_opening, served_closed}
use Rattle.hm_core.proofs.EnterLemmas.{waited_for}
use Rattle.hm_core.proofs.NumberLemmas.{done_tells_none, told_more, told_same}
use Rattle.hm_core.proofs.OpenedJobLemmas.{found_last, one_more, opened_before, opened_is, told_last}
use Rattle.hm_core.proofs.RepliedLemmas.{entry_there}
use Rattle.hm_core.proofs.RunningLemmas.{told_before}
use Rattle.hm_core.proofs.StepLemmas.{boundary_drawn, boundary_told, closed_now, entry_of, greatest_drawn, least_left, ordered_next, target_drawn, told_since}
use Rattle.hm_core.proofs.volume.Core.call.Goals as goal

pub returns-then-self-eq-GREATEST_ID-clause-follows : goal.returns-then-self-eq-GREATEST_ID-clause-follows
returns-then-self-eq-GREATEST_ID-clause-follows g c =
    let s = c.args.self.now in
    follows_itself (g.D.Disk.left_since s.stored.space.disk) (seen s) c.core_is_sound.ensures

pub returns-then-must_flush-clause-follows : goal.returns-then-must_flush-clause-follows
returns-then-must_flush-clause-follows g c =
    let s = c.args.self.now in
    follows_itself (g.D.Disk.left_since s.stored.space.disk) (seen s) c.core_is_sound.ensures

pub returns-then-must_flush-clause-steps : goal.returns-then-must_flush-clause-steps
returns-then-must_flush-clause-steps g c =
    let s = c.args.self.now in
    let h = heap_of (contents s.stored.space.pages.store) (g.D.Disk.told s.stored.space.disk) s.stored.space.books in
    let greatest = greatest_drawn s.flusher s.last.0 s.free h s.history.items s.ordered in
    (refl, refl, omega (arith, greatest), c.must_flush.ensures.0 c.if-must_flush.true)

pub returns-then-self-eq-GREATEST_ID-clause-live : goal.returns-then-self-eq-GREATEST_ID-clause-live
returns-then-self-eq-GREATEST_ID-clause-live g c =
    let s = seen c.args.self.now in
    λ volume holds. live_same NoByte s.heap s.root s.heap.disk refl

pub returns-then-must_flush-clause-live : goal.returns-then-must_flush-clause-live
returns-then-must_flush-clause-live g c =
    let s = seen c.args.self.now in
    λ volume holds. live_same NoByte s.heap s.root s.heap.disk refl

pub answer_placed-answered-requires-clause-closed : goal.answer_placed-answered-requires-clause-closed
answer_placed-answered-requires-clause-closed g c =
    let s = c.args.self.now in
    closed_now s.flusher s.last.0 s.free
    (heap_of (contents s.stored.space.pages.store) (g.D.Disk.told s.stored.space.disk) s.stored.space.books) s.history.items s.ordered

pub answer_placed-answered-requires-clause-left : goal.answer_placed-answered-requires-clause-left
answer_placed-answered-requires-clause-left g c =
    let s = c.args.self.now in
    let h = heap_of (contents s.stored.space.pages.store) (g.D.Disk.told s.stored.space.disk) s.stored.space.books in
    let greatest = greatest_drawn s.flusher s.last.0 s.free h s.history.items s.ordered in
    omega (arith, greatest)

pub overflow_add-id : goal.overflow_add-id
overflow_add-id g c =
    let s = c.args.self.now in
    let h = heap_of (contents s.stored.space.pages.store) (g.D.Disk.told s.stored.space.disk) s.stored.space.books in
    let greatest = greatest_drawn s.flusher s.last.0 s.free h s.history.items s.ordered in
    omega (arith, greatest)

-- ---- it is at its end

pub invariant_of-self : goal.invariant_of-self
invariant_of-self g c =
    let s = c.args.self.now in
    let t = c.answer_placed-answered.new.stored in
    let f = s.flusher in
    let h = heap_of (contents s.stored.space.pages.store) (g.D.Disk.told s.stored.space.disk) s.stored.space.books in
    let h' = heap_of (contents t.space.pages.store) (g.D.Disk.told t.space.disk) t.space.books in
    let entry = entry_of (s.last.0 + 1) c.args.lane c.args.line c.args.command c.in-Replied.reply in
    let many = ap length c.answer_placed-answered.ensures.same in
    let placed : length c.answer_placed-answered.new.running.items ≤ vec_capacity c.push_reserved.new.self - vec_len c.push_reserved.new.self =
    omega (arith, c.requires.room, many, c.push_reserved.ensures.len, c.push_reserved.ensures.capacity) in
    let by_now = c.max-self.ensures in
    let by_reply = c.numbers_by.ensures in
    let before = s.numbered in
    let more = told_more s.history.items entry in
    let numbers : c.max-self.result ≡ numbers_told (s.history.items ++ entry ∷ []) = omega (arith, by_now, by_reply, before, more) in
    record {
      placed = placed;
      numbered = subst (λ (l : List Entry). c.max-self.result ≡ numbers_told l) (sym c.push_reserved.ensures.items) numbers;
      ordered = ∥∥₁_map s.ordered (λ o.
          subst (λ (l : List Entry). IsInOrder f (s.last.0 + 1) s.free h' l) (sym c.push_reserved.ensures.items)
          (ordered_next f s.last.0 s.free h s.history.items h' s.stored.root t.root s.numbers (g.D.Disk.faults s.stored.space.disk)
          (g.D.Disk.faults t.space.disk) c.args.command c.in-Replied.reply None entry
          (let greatest = o.greatest in omega (arith, greatest)) (record { call_is = refl; reply_is = refl; own = refl })
          (rw c.in-Replied.is at c.answer_placed-answered.ensures.answers) o));
      caused = ∥∥₁_map s.caused (λ so_far.
          subst (λ (l : List Entry). IsCausedWith s.first.0 (disk_counts s.start) (disk_counts (g.D.Disk.faults t.space.disk)) (s.last.0 + 1)
          (open_jobs c.answer_placed-answered.new.running.items) l) (sym c.push_reserved.ensures.items)
          (subst (λ (ps : List Running). IsCausedWith s.first.0 (disk_counts s.start) (disk_counts (g.D.Disk.faults t.space.disk)) (s.last.0 + 1)
          (open_jobs ps) (s.history.items ++ entry ∷ [])) (sym c.answer_placed-answered.ensures.same)
          ((rw c.in-Replied.is at c.answer_placed-answered.ensures.answers).caused s.first.0 (disk_counts s.start) (disk_counts 0) s.history.items
          (seen s).running entry
          (record { call_is = refl; reply_is = refl; own = refl })
          (boundary_told f s.last.0 s.free h s.history.items s.ordered) (boundary_drawn f s.last.0 s.free h s.history.items s.ordered) so_far)));
    }

pub returns-in-Replied-clause-steps : goal.returns-in-Replied-clause-steps
returns-in-Replied-clause-steps g c =
    let s = c.args.self.now in
    let place : c.len-place.result ≡ length s.history.items = omega (arith, c.len-place.ensures, s.history.ok) in
    let f = s.flusher in
    let h = heap_of (contents s.stored.space.pages.store) (g.D.Disk.told s.stored.space.disk) s.stored.space.books in
    let entry = entry_of (s.last.0 + 1) c.args.lane c.args.line c.args.command c.in-Replied.reply in
    let drawn = boundary_drawn f s.last.0 s.free h s.history.items s.ordered in
    let greatest = greatest_drawn f s.last.0 s.free h s.history.items s.ordered in
    let many = ap length c.answer_placed-answered.ensures.same in
    let left : s.last.0 < GREATEST_ID = omega (arith, greatest) in
    let before : f.header.last.0 < s.last.0 + 1 = omega (arith, drawn) in
    let all = length-map s.running.items open_job in
    let now = length-map c.answer_placed-answered.new.running.items open_job in
    let spare : (seen s).spare + length (seen s).running
    ≤ spare_of (vec_capacity c.push_reserved.new.self) (vec_len c.push_reserved.new.self) (length c.answer_placed-answered.new.running.items)
    + length (open_jobs c.answer_placed-answered.new.running.items) + 1 =
    omega (arith, c.requires.room, many, all, now, c.push_reserved.ensures.len, c.push_reserved.ensures.capacity) in
    let none : ¬ NeedsFlush (seen s) c.args.since.0 c.args.command = λ needs. search rules in (
      place,
      record {
        enters = record {
          left = left;
          entry = entry;
          history = c.push_reserved.ensures.items;
          of_line = (refl, refl, refl);
          told = told_since c.args.since.0 f.header.last.0 c.args.command c.in-Replied.reply
              (λ sync. waited_for (seen s) c.args.since.0 c.args.command none sync) (rw c.in-Replied.is at c.answer_placed-answered.ensures.answers).told;
          id = (refl, refl);
          before = before;
          spare = spare;
        };
        closed = served_closed c.args.command c.in-Replied.reply c.requires.asked.served (rw c.in-Replied.is at c.answer_placed-answered.ensures.answers).form;
        running = ap open_jobs c.answer_placed-answered.ensures.same;
      },
      refl,
      none,
    )

pub returns-in-Replied-clause-replied : goal.returns-in-Replied-clause-replied
returns-in-Replied-clause-replied g c =
    let s = c.args.self.now in
    let place : c.len-place.result ≡ length s.history.items = omega (arith, c.len-place.ensures, s.history.ok) in
    let t = c.answer_placed-answered.new.stored in
    let h = heap_of (contents s.stored.space.pages.store) (g.D.Disk.told s.stored.space.disk) s.stored.space.books in
    let entry = entry_of (s.last.0 + 1) c.args.lane c.args.line c.args.command c.in-Replied.reply in
    λ found there.
    subst (λ (e : Entry). IsReplied (numbers_told s.history.items) (g.D.Disk.faults s.stored.space.disk) (g.D.Disk.faults t.space.disk) s.last.0
    c.args.command h s.stored.root e.reply)
    (sym (entry_there s.history.items entry found c.len-place.result place
    (subst (λ (l : List Entry). slice_get l c.len-place.result ≡ Some found) c.push_reserved.ensures.items there)))
    (rw s.numbered at (rw c.in-Replied.is at c.answer_placed-answered.ensures.answers).replied)

pub returns-in-Replied-clause-follows : goal.returns-in-Replied-clause-follows
unfolding heap_of
returns-in-Replied-clause-follows g c =
    let s = c.args.self.now in
    let t = c.answer_placed-answered.new.stored in
    let f = s.flusher in
    let h = heap_of (contents s.stored.space.pages.store) (g.D.Disk.told s.stored.space.disk) s.stored.space.books in
    let entry = entry_of (s.last.0 + 1) c.args.lane c.args.line c.args.command c.in-Replied.reply in
    call_follows (g.D.Disk.left_since s.stored.space.disk) (g.D.Disk.left_since t.space.disk) (seen s) _ c.args.command entry
    c.in-Replied.reply None c.core_is_sound.ensures c.core_is_sound-in-Replied.ensures
    (target_drawn f s.last.0 s.free h s.history.items s.ordered) (least_left f s.last.0 s.free h s.history.items s.ordered)
    (record {
      history = c.push_reserved.ensures.items;
      last = refl;
      boundary = refl;
      mounted = refl;
      counts = refl;
      flush = refl;
      running = ap open_jobs
          c.answer_placed-answered.ensures.same;
    })
    (record { call_is = refl; reply_is = refl; own = refl }) (rw (c.in-Replied.is, s.numbered) at c.answer_placed-answered.ensures.answers)
    c.answer_placed-answered.ensures.crashes

pub returns-in-Replied-clause-crashes : goal.returns-in-Replied-clause-crashes
unfolding heap_of
returns-in-Replied-clause-crashes g c =
    let s = c.args.self.now in
    let t = c.answer_placed-answered.new.stored in
    let f = s.flusher in
    let h = heap_of (contents s.stored.space.pages.store) (g.D.Disk.told s.stored.space.disk) s.stored.space.books in
    let entry = entry_of (s.last.0 + 1) c.args.lane c.args.line c.args.command c.in-Replied.reply in
    call_leaves_held (g.D.Disk.left_since s.stored.space.disk) (g.D.Disk.left_since t.space.disk) (seen s) _ c.args.command entry
    c.in-Replied.reply None c.core_is_sound.ensures c.core_is_sound-in-Replied.ensures
    (target_drawn f s.last.0 s.free h s.history.items s.ordered) (least_left f s.last.0 s.free h s.history.items s.ordered)
    (record {
      history = c.push_reserved.ensures.items;
      last = refl;
      boundary = refl;
      mounted = refl;
      counts = refl;
      flush = refl;
      running = ap open_jobs
          c.answer_placed-answered.ensures.same;
    })
    (record { call_is = refl; reply_is = refl; own = refl }) (rw (c.in-Replied.is, s.numbered) at c.answer_placed-answered.ensures.answers)
    c.answer_placed-answered.ensures.crashes

pub returns-in-Replied-clause-live : goal.returns-in-Replied-clause-live
unfolding heap_of
returns-in-Replied-clause-live g c = c.answer_placed-answered.ensures.answers.live

-- ---- it opened a call of housekeeping

pub invariant_of-self-in-Opened : goal.invariant_of-self-in-Opened
invariant_of-self-in-Opened g c =
    let s = c.args.self.now in
    let t = c.answer_placed-answered.new.stored in
    let f = s.flusher in
    let h = heap_of (contents s.stored.space.pages.store) (g.D.Disk.told s.stored.space.disk) s.stored.space.books in
    let h' = heap_of (contents t.space.pages.store) (g.D.Disk.told t.space.disk) t.space.books in
    let entry = entry_of (s.last.0 + 1) c.args.lane c.args.line c.args.command Done in
    let r : Running =
    record { opening = record { 0 = s.last.0 + 1 }; lane = c.args.lane; line = c.args.line; work = c.in-Opened.work } in
    let more = one_more s.running.items c.answer_placed-answered.new.running.items c.push_reserved-in-Opened-2.new.self.items r
    c.answer_placed-answered.ensures.same c.push_reserved-in-Opened-2.ensures.items in
    let placed : length c.push_reserved-in-Opened-2.new.self.items
    ≤ vec_capacity c.push_reserved-in-Opened.new.self - vec_len c.push_reserved-in-Opened.new.self =
    omega (arith, c.requires.room, more, c.push_reserved-in-Opened.ensures.len, c.push_reserved-in-Opened.ensures.capacity) in
    let running_is = opened_is s.running.items c.answer_placed-answered.new.running.items c.push_reserved-in-Opened-2.new.self.items
    r (job_of entry (open_work c.in-Opened.work)) c.answer_placed-answered.ensures.same c.push_reserved-in-Opened-2.ensures.items
    refl in
    record {
      placed = placed;
      numbered = subst (λ (l : List Entry). s.numbers ≡ numbers_told l) (sym c.push_reserved-in-Opened.ensures.items)
          (told_same s.history.items entry s.numbers (done_tells_none c.args.command) s.numbered);
      ordered = ∥∥₁_map s.ordered (λ o.
          subst (λ (l : List Entry). IsInOrder f (s.last.0 + 1) s.free h' l) (sym c.push_reserved-in-Opened.ensures.items)
          (ordered_next f s.last.0 s.free h s.history.items h' s.stored.root t.root s.numbers (g.D.Disk.faults s.stored.space.disk)
          (g.D.Disk.faults t.space.disk) c.args.command Done (Some (open_work c.in-Opened.work)) entry
          (let greatest = o.greatest in omega (arith, greatest)) (record { call_is = refl; reply_is = refl; own = refl })
          (rw c.in-Opened.is at c.answer_placed-answered.ensures.answers) o));
      caused = ∥∥₁_map s.caused (λ so_far.
          subst (λ (l : List Entry). IsCausedWith s.first.0 (disk_counts s.start) (disk_counts (g.D.Disk.faults t.space.disk)) (s.last.0 + 1)
          (open_jobs c.push_reserved-in-Opened-2.new.self.items) l) (sym c.push_reserved-in-Opened.ensures.items)
          (subst (λ (ps : List OpenJob). IsCausedWith s.first.0 (disk_counts s.start) (disk_counts (g.D.Disk.faults t.space.disk)) (s.last.0 + 1)
          ps (s.history.items ++ entry ∷ [])) (sym running_is)
          ((rw c.in-Opened.is at c.answer_placed-answered.ensures.answers).caused s.first.0 (disk_counts s.start) (disk_counts 0) s.history.items
          (seen s).running entry
          (record { call_is = refl; reply_is = refl; own = refl })
          (boundary_told f s.last.0 s.free h s.history.items s.ordered) (boundary_drawn f s.last.0 s.free h s.history.items s.ordered) so_far)));
    }

pub returns-in-Opened-clause-steps : goal.returns-in-Opened-clause-steps
unfolding heap_of
returns-in-Opened-clause-steps g c =
    let s = c.args.self.now in
    let t = c.answer_placed-answered.new.stored in
    let place : c.len-place.result ≡ length s.history.items = omega (arith, c.len-place.ensures, s.history.ok) in
    let f = s.flusher in
    let h = heap_of (contents s.stored.space.pages.store) (g.D.Disk.told s.stored.space.disk) s.stored.space.books in
    let entry = entry_of (s.last.0 + 1) c.args.lane c.args.line c.args.command Done in
    let drawn = boundary_drawn f s.last.0 s.free h s.history.items s.ordered in
    let greatest = greatest_drawn f s.last.0 s.free h s.history.items s.ordered in
    let r : Running =
    record { opening = record { 0 = s.last.0 + 1 }; lane = c.args.lane; line = c.args.line; work = c.in-Opened.work } in
    let more = one_more s.running.items c.answer_placed-answered.new.running.items c.push_reserved-in-Opened-2.new.self.items r
    c.answer_placed-answered.ensures.same c.push_reserved-in-Opened-2.ensures.items in
    let left : s.last.0 < GREATEST_ID = omega (arith, greatest) in
    let before : f.header.last.0 < s.last.0 + 1 = omega (arith, drawn) in
    let all = length-map s.running.items open_job in
    let now = length-map c.push_reserved-in-Opened-2.new.self.items open_job in
    let spare : (seen s).spare + length (seen s).running
    ≤ spare_of (vec_capacity c.push_reserved-in-Opened.new.self) (vec_len c.push_reserved-in-Opened.new.self)
    (length c.push_reserved-in-Opened-2.new.self.items) + length (open_jobs c.push_reserved-in-Opened-2.new.self.items) + 1 =
    omega (arith, c.requires.room, more, all, now, c.push_reserved-in-Opened.ensures.len, c.push_reserved-in-Opened.ensures.capacity) in
    let none : ¬ NeedsFlush (seen s) c.args.since.0 c.args.command = λ needs. search rules in
    let running_is = opened_is s.running.items c.answer_placed-answered.new.running.items c.push_reserved-in-Opened-2.new.self.items
    r (job_of entry (open_work c.in-Opened.work)) c.answer_placed-answered.ensures.same c.push_reserved-in-Opened-2.ensures.items
    refl in (
      place,
      record {
        enters = record {
          left = left;
          entry = entry;
          history = c.push_reserved-in-Opened.ensures.items;
          of_line = (refl, refl, refl);
          told = told_since c.args.since.0 f.header.last.0 c.args.command Done
              (λ sync. waited_for (seen s) c.args.since.0 c.args.command none sync) (rw c.in-Opened.is at c.answer_placed-answered.ensures.answers).told;
          id = (refl, refl);
          before = before;
          spare = spare;
        };
        accepted = an_opening c.args.command (open_work c.in-Opened.work) Done (rw c.in-Opened.is at c.answer_placed-answered.ensures.answers).form.0 refl;
        job = job_of entry (open_work c.in-Opened.work);
        own = (refl, refl, refl);
        does = (rw c.in-Opened.is at c.answer_placed-answered.ensures.answers).form.0;
        named = refl;
        running = running_is;
        found = rw running_is (found_last s.last.0 (seen s).running (job_of entry (open_work c.in-Opened.work))
            (opened_before s.first.0 (disk_counts s.start) (disk_counts (g.D.Disk.faults s.stored.space.disk)) s.last.0 (seen s).running s.history.items
            s.caused) refl);
        keeps = call_leads (g.D.Disk.left_since s.stored.space.disk) (g.D.Disk.left_since t.space.disk) (seen s) _ c.args.command entry
            Done (Some (open_work c.in-Opened.work)) c.core_is_sound.ensures c.core_is_sound-in-Opened.ensures
            (target_drawn f s.last.0 s.free h s.history.items s.ordered) (least_left f s.last.0 s.free h s.history.items s.ordered)
            (record {
              history = c.push_reserved-in-Opened.ensures.items;
              last = refl;
              boundary = refl;
              mounted = refl;
              counts = refl;
              flush = refl;
              running = running_is;
            })
            (record { call_is = refl; reply_is = refl; own = refl }) (rw (c.in-Opened.is, s.numbered) at c.answer_placed-answered.ensures.answers)
            c.answer_placed-answered.ensures.crashes;
      },
      refl,
      none,
    )

pub returns-in-Opened-clause-replied : goal.returns-in-Opened-clause-replied
returns-in-Opened-clause-replied g c =
    let s = c.args.self.now in
    let place : c.len-place.result ≡ length s.history.items = omega (arith, c.len-place.ensures, s.history.ok) in
    let t = c.answer_placed-answered.new.stored in
    let h = heap_of (contents s.stored.space.pages.store) (g.D.Disk.told s.stored.space.disk) s.stored.space.books in
    let entry = entry_of (s.last.0 + 1) c.args.lane c.args.line c.args.command Done in
    λ found there.
    subst (λ (e : Entry). IsReplied (numbers_told s.history.items) (g.D.Disk.faults s.stored.space.disk) (g.D.Disk.faults t.space.disk) s.last.0
    c.args.command h s.stored.root e.reply)
    (sym (entry_there s.history.items entry found c.len-place.result place
    (subst (λ (l : List Entry). slice_get l c.len-place.result ≡ Some found) c.push_reserved-in-Opened.ensures.items there)))
    (rw s.numbered at (rw c.in-Opened.is at c.answer_placed-answered.ensures.answers).replied)

pub returns-in-Opened-clause-follows : goal.returns-in-Opened-clause-follows
unfolding heap_of
returns-in-Opened-clause-follows g c =
    let s = c.args.self.now in
    let t = c.answer_placed-answered.new.stored in
    let f = s.flusher in
    let h = heap_of (contents s.stored.space.pages.store) (g.D.Disk.told s.stored.space.disk) s.stored.space.books in
    let entry = entry_of (s.last.0 + 1) c.args.lane c.args.line c.args.command Done in
    let r : Running =
    record { opening = record { 0 = s.last.0 + 1 }; lane = c.args.lane; line = c.args.line; work = c.in-Opened.work } in
    let running_is = opened_is s.running.items c.answer_placed-answered.new.running.items c.push_reserved-in-Opened-2.new.self.items
    r (job_of entry (open_work c.in-Opened.work)) c.answer_placed-answered.ensures.same c.push_reserved-in-Opened-2.ensures.items
    refl in
    call_follows (g.D.Disk.left_since s.stored.space.disk) (g.D.Disk.left_since t.space.disk) (seen s) _ c.args.command entry
    Done (Some (open_work c.in-Opened.work)) c.core_is_sound.ensures c.core_is_sound-in-Opened.ensures
    (target_drawn f s.last.0 s.free h s.history.items s.ordered) (least_left f s.last.0 s.free h s.history.items s.ordered)
    (record {
      history = c.push_reserved-in-Opened.ensures.items;
      last = refl;
      boundary = refl;
      mounted = refl;
      counts = refl;
      flush = refl;
      running = running_is;
    })
    (record { call_is = refl; reply_is = refl; own = refl }) (rw (c.in-Opened.is, s.numbered) at c.answer_placed-answered.ensures.answers)
    c.answer_placed-answered.ensures.crashes

pub returns-in-Opened-clause-crashes : goal.returns-in-Opened-clause-crashes
unfolding heap_of
returns-in-Opened-clause-crashes g c =
    let s = c.args.self.now in
    let t = c.answer_placed-answered.new.stored in
    let f = s.flusher in
    let h = heap_of (contents s.stored.space.pages.store) (g.D.Disk.told s.stored.space.disk) s.stored.space.books in
    let entry = entry_of (s.last.0 + 1) c.args.lane c.args.line c.args.command Done in
    let r : Running =
    record { opening = record { 0 = s.last.0 + 1 }; lane = c.args.lane; line = c.args.line; work = c.in-Opened.work } in
    let running_is = opened_is s.running.items c.answer_placed-answered.new.running.items c.push_reserved-in-Opened-2.new.self.items
    r (job_of entry (open_work c.in-Opened.work)) c.answer_placed-answered.ensures.same c.push_reserved-in-Opened-2.ensures.items
    refl in
    call_leaves_held (g.D.Disk.left_since s.stored.space.disk) (g.D.Disk.left_since t.space.disk) (seen s) _ c.args.command entry
    Done (Some (open_work c.in-Opened.work)) c.core_is_sound.ensures c.core_is_sound-in-Opened.ensures
    (target_drawn f s.last.0 s.free h s.history.items s.ordered) (least_left f s.last.0 s.free h s.history.items s.ordered)
    (record {
      history = c.push_reserved-in-Opened.ensures.items;
      last = refl;
      boundary = refl;
      mounted = refl;
      counts = refl;
      flush = refl;
      running = running_is;
    })
    (record { call_is = refl; reply_is = refl; own = refl }) (rw (c.in-Opened.is, s.numbered) at c.answer_placed-answered.ensures.answers)
    c.answer_placed-answered.ensures.crashes

pub returns-in-Opened-clause-live : goal.returns-in-Opened-clause-live
unfolding heap_of
returns-in-Opened-clause-live g c = c.answer_placed-answered.ensures.answers.live

pub returns-in-Opened-clause-begins : goal.returns-in-Opened-clause-begins
returns-in-Opened-clause-begins g c =
    let s = c.args.self.now in
    let h = heap_of (contents s.stored.space.pages.store) (g.D.Disk.told s.stored.space.disk) s.stored.space.books in
    let r : Running =
    record { opening = record { 0 = s.last.0 + 1 }; lane = c.args.lane; line = c.args.line; work = c.in-Opened.work } in
    let items = c.push_reserved-in-Opened-2.ensures.items ∙ ap (λ (rs : List Running). rs ++ r ∷ []) c.answer_placed-answered.ensures.same in
    subst (BeginsBy c.args.command h) (sym (ap (choice_among (s.last.0 + 1)) items
    ∙ told_last [] choice_of_work s.last.0 s.running.items r
    (opened_before s.first.0 (disk_counts s.start) (disk_counts (g.D.Disk.faults s.stored.space.disk)) s.last.0 (seen s).running s.history.items s.caused)
    refl)) (rw c.in-Opened.is at c.answer_placed-answered.ensures.begins)

pub returns-in-Opened-clause-choices : goal.returns-in-Opened-clause-choices
returns-in-Opened-clause-choices g c = λ id there.
    let s = c.args.self.now in
    let r : Running =
    record { opening = record { 0 = s.last.0 + 1 }; lane = c.args.lane; line = c.args.line; work = c.in-Opened.work } in
    let items = c.push_reserved-in-Opened-2.ensures.items ∙ ap (λ (rs : List Running). rs ++ r ∷ []) c.answer_placed-answered.ensures.same in
    ap (choice_among id) items ∙ told_before [] choice_of_work id s.running.items r there

pub returns-in-Replied-clause-choices : goal.returns-in-Replied-clause-choices
returns-in-Replied-clause-choices g c = λ id there. ap (choice_among id) c.answer_placed-answered.ensures.same
