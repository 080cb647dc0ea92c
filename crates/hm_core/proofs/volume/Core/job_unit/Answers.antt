-- A unit of an open call is done, and its ending is entered where one is due.
use Rattle.std.proofs.Common.{◌≡◌, ◌+◌, List, [], Some, length, refl, slice_get, sym, ap, subst, ◌∙◌, arith}
use Rattle.std.specs.Prelude.{vec_capacity, vec_len}
use Rattle.std.proofs.lemmas.List.{length-map}
use Rattle.hm_model.specs.declared.command.Command.TheVariants.{End}
use Rattle.hm_model.specs.declared.entry.Entry.{Entry}
use Rattle.hm_model.specs.declared.reply.Reply.TheVariants.{Finished}
use Rattle.hm_relocate.specs.Leaving.{LeavesChoice}
use Rattle.hm_core.specs.Jobs.{LacksBy}
use Rattle.hm_core.specs.Numbers.{numbers_told}
use Rattle.hm_core.specs.Running.{open_job, open_jobs}
use Rattle.hm_core.specs.Seen.{choice_of, seen, spare_of}
use Rattle.hm_core.specs.State.{Mounted, OpenJob, jobs_beside}
use Rattle.hm_core.proofs.JobEndLemmas.{ended_follows, ended_known, ended_ordered, ends_job, found_before}
use Rattle.hm_core.proofs.JobEndLemmas.{least_before, spent_caused, spent_follows, still_open}
use Rattle.hm_core.proofs.NumberLemmas.{told_same}
use Rattle.hm_core.proofs.RepliedLemmas.{entry_there}
use Rattle.hm_core.proofs.RunningLemmas.{fewer_open, found_read, open_is, place_has}
use Rattle.hm_core.proofs.StepLemmas.{entry_of, greatest_drawn}
use Rattle.hm_core.proofs.volume.Core.job_unit.Goals as goal

pub index-open-requires : goal.index-open-requires
index-open-requires g c =
    let m = c.work.new.self in
    let id = c.args.ticket.opening in
    let it = open_is id.0 (seen m).running (still_open (seen c.args.self.now) (seen m) c.in-Some.ensures.works.waits id.0 c.requires.runs) in
    let within = (place_has id.0 m.running.items it.0 it.1).within in
    let place = c.place_of-at.ensures in
    omega (arith, within, place)

pub overflow_add-id : goal.overflow_add-id
overflow_add-id g c =
    let m = c.work.new.self in
    let greatest = greatest_drawn m.flusher m.last.0 m.free (seen m).heap m.history.items m.ordered in
    omega (arith, greatest)

pub invariant_of-self : goal.invariant_of-self
invariant_of-self g c =
    let s = c.args.self.now in
    let m = c.work.new.self in
    let id = c.args.ticket.opening in
    let r = c.index-open.result.now in
    let worked = c.in-Some.ensures in
    let runs = still_open (seen s) (seen m) worked.works.waits id.0 c.requires.runs in
    let found = found_read id.0 m.running.items c.place_of-at.result r c.place_of-at.ensures c.index-open.ensures runs in
    let left = c.close.new.running.items in
    let fewer = fewer_open id.0 m.running.items left (open_job r) c.close.ensures.left found in
    let placed = m.placed in
    record {
      placed = omega (arith, fewer, placed);
      numbered = m.numbered;
      ordered = m.ordered;
      caused = spent_caused (g.D.Disk.left_since s.stored.space.disk) (g.D.Disk.left_since m.stored.space.disk) (seen s) (seen m) worked.works.waits
          worked.follows id (open_job r) found (open_jobs left) c.close.ensures.left m.ordered m.caused;
    }

pub returns-then-self-eq-GREATEST_ID-clause-units : goal.returns-then-self-eq-GREATEST_ID-clause-units
returns-then-self-eq-GREATEST_ID-clause-units g c =
    let s = c.args.self.now in
    let m = c.work.new.self in
    let id = c.args.ticket.opening in
    let r = c.index-open.result.now in
    let waits = c.in-Some.ensures.works.waits in
    let runs = still_open (seen s) (seen m) waits id.0 c.requires.runs in
    let found = found_read id.0 m.running.items c.place_of-at.result r c.place_of-at.ensures c.index-open.ensures runs in
    let fewer = fewer_open id.0 m.running.items c.close.new.running.items (open_job r) c.close.ensures.left found in
    let room = waits.spare in
    record {
      left = sym waits.last ∙ c.if-self-eq-GREATEST_ID.true;
      history = waits.history;
      last = waits.last;
      closes = record { running = c.close.ensures.left ∙ ap (jobs_beside id.0) waits.running; room = omega (arith, fewer, room) };
    }

pub returns-then-self-eq-GREATEST_ID-clause-follows : goal.returns-then-self-eq-GREATEST_ID-clause-follows
returns-then-self-eq-GREATEST_ID-clause-follows g c =
    let s = c.args.self.now in
    let m = c.work.new.self in
    let id = c.args.ticket.opening in
    let r = c.index-open.result.now in
    let worked = c.in-Some.ensures in
    let runs = still_open (seen s) (seen m) worked.works.waits id.0 c.requires.runs in
    let found = found_read id.0 m.running.items c.place_of-at.result r c.place_of-at.ensures c.index-open.ensures runs in
    spent_follows (g.D.Disk.left_since s.stored.space.disk) (g.D.Disk.left_since m.stored.space.disk) (seen s) (seen m) worked.works.waits
    worked.follows id (open_job r) found (open_jobs c.close.new.running.items) c.close.ensures.left m.ordered _ c.core_is_sound.ensures

pub invariant_of-self-2 : goal.invariant_of-self-2
invariant_of-self-2 g c =
    let s = c.args.self.now in
    let m = c.work.new.self in
    let id = c.args.ticket.opening in
    let r = c.index-open.result.now in
    let worked = c.in-Some.ensures in
    let past = g.D.Disk.left_since s.stored.space.disk in
    let since = g.D.Disk.left_since m.stored.space.disk in
    let runs = still_open (seen s) (seen m) worked.works.waits id.0 c.requires.runs in
    let found = found_read id.0 m.running.items c.place_of-at.result r c.place_of-at.ensures c.index-open.ensures runs in
    let left = c.close.new.running.items in
    let fewer = fewer_open id.0 m.running.items left (open_job r) c.close.ensures.left found in
    let placed = m.placed in
    let entered = c.push_reserved.ensures.items in
    record {
      placed = omega (arith, fewer, placed, c.push_reserved.ensures.len, c.push_reserved.ensures.capacity);
      numbered = subst (λ (l : List Entry). m.numbers ≡ numbers_told l) (sym entered)
          (told_same m.history.items (entry_of (m.last.0 + 1) r.lane r.line (End id) c.in-Some.reply) m.numbers refl m.numbered);
      ordered = ended_ordered past since (seen s) (seen m) worked.works.waits worked.follows id (open_job r) found (open_jobs left) c.close.ensures.left
          m.ordered c.if-self-eq-GREATEST_ID.false c.in-Some.reply
          (worked.works.ends.tells (open_job r) (found_before (seen s) (seen m) worked.works.waits id.0 (open_job r) found))
          c.push_reserved.new.self.items entered;
      caused = ended_known past since (seen s) (seen m) worked.works.waits worked.follows id (open_job r) found (open_jobs left) c.close.ensures.left
          m.ordered c.if-self-eq-GREATEST_ID.false c.in-Some.reply
          (worked.works.ends.tells (open_job r) (found_before (seen s) (seen m) worked.works.waits id.0 (open_job r) found))
          c.push_reserved.new.self.items entered 0 s.caused;
    }

pub returns-clause-units : goal.returns-clause-units
returns-clause-units g c =
    let s = c.args.self.now in
    let m = c.work.new.self in
    let id = c.args.ticket.opening in
    let r = c.index-open.result.now in
    let worked = c.in-Some.ensures in
    let waits = worked.works.waits in
    let past = g.D.Disk.left_since s.stored.space.disk in
    let since = g.D.Disk.left_since m.stored.space.disk in
    let runs = still_open (seen s) (seen m) waits id.0 c.requires.runs in
    let found = found_read id.0 m.running.items c.place_of-at.result r c.place_of-at.ensures c.index-open.ensures runs in
    let left = c.close.new.running.items in
    let fewer = fewer_open id.0 m.running.items left (open_job r) c.close.ensures.left found in
    let placed = m.placed in
    let same = waits.spare in
    let many : length (seen m).running ≡ length (seen s).running = ap (λ (ps : List OpenJob). length ps) waits.running in
    let all : length (seen m).running ≡ length m.running.items = length-map m.running.items open_job in
    let others : length (open_jobs left) ≡ length left = length-map left open_job in
    let entered = c.push_reserved.ensures.items in (
      omega (arith, c.len-place.ensures, m.history.ok, ap (λ (l : List Entry). length l) waits.history),
      ends_job past since (seen s) (seen m) waits worked.follows id (open_job r) found (open_jobs left) c.close.ensures.left
          m.ordered c.if-self-eq-GREATEST_ID.false c.in-Some.reply
          (worked.works.ends.tells (open_job r) (found_before (seen s) (seen m) worked.works.waits id.0 (open_job r) found))
          c.push_reserved.new.self.items entered
          (spare_of (vec_capacity c.push_reserved.new.self) (vec_len c.push_reserved.new.self) (length left)) refl worked.works.ends
          (omega (arith, fewer, placed, same, many, all, others, c.push_reserved.ensures.len, c.push_reserved.ensures.capacity))
          (omega (arith, fewer, placed, same, c.push_reserved.ensures.len, c.push_reserved.ensures.capacity)),
    )

pub returns-clause-work : goal.returns-clause-work
returns-clause-work g c =
    let s = c.args.self.now in
    let m = c.work.new.self in
    let id = c.args.ticket.opening in
    let r = c.index-open.result.now in
    let was = choice_of id.0 s in
    let at = c.len-place.result in
    let there : at ≡ length m.history.items = omega (arith, c.len-place.ensures, m.history.ok) in
    let entry = entry_of (m.last.0 + 1) r.lane r.line (End id) c.in-Some.reply in
    let entered : (found : Entry) → slice_get c.push_reserved.new.self.items at ≡ Some found → found ≡ entry = λ found is.
    entry_there m.history.items entry found at there (subst (λ (l : List Entry). slice_get l at ≡ Some found) c.push_reserved.ensures.items is) in
    record {
      more = tt;
      choice = λ found is. subst (λ (e : Entry). e.reply ≡ Finished → LeavesChoice (seen s).heap (seen m).heap was []) (sym (entered found is))
          c.in-Some.ensures.choice;
      space = λ found is. subst (λ (e : Entry). LacksBy was (seen s) e.reply) (sym (entered found is)) c.in-Some.ensures.space;
    }

pub returns-clause-follows : goal.returns-clause-follows
returns-clause-follows g c =
    let s = c.args.self.now in
    let m = c.work.new.self in
    let id = c.args.ticket.opening in
    let r = c.index-open.result.now in
    let worked = c.in-Some.ensures in
    let past = g.D.Disk.left_since s.stored.space.disk in
    let since = g.D.Disk.left_since m.stored.space.disk in
    let runs = still_open (seen s) (seen m) worked.works.waits id.0 c.requires.runs in
    let found = found_read id.0 m.running.items c.place_of-at.result r c.place_of-at.ensures c.index-open.ensures runs in
    let entered = c.push_reserved.ensures.items in
    ended_follows past since (seen s) (seen m) worked.works.waits worked.follows id (open_job r) found (open_jobs c.close.new.running.items)
    c.close.ensures.left m.ordered c.if-self-eq-GREATEST_ID.false c.in-Some.reply
    (worked.works.ends.tells (open_job r) (found_before (seen s) (seen m) worked.works.waits id.0 (open_job r) found)) c.push_reserved.new.self.items
    entered _ refl (least_before s.flusher s.last.0 s.free (seen s).heap s.history.items m.history.items (ap (λ (x : Mounted). x.free) worked.follows.mounted)
    worked.works.waits.history s.ordered) worked.uncounted c.core_is_sound-2.ensures
