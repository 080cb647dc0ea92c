-- A unit, between two looks at the append big-blocks.
use Rattle.std.proofs.Common.{List, ℕ, subst, ◌∙◌}
use Rattle.std.specs.List.{Contains}
use Rattle.std.proofs.lemmas.Result.{err_from_is_err_and}
use Rattle.hm_pages.specs.Store.{contents}
use Rattle.hm_stored.specs.Heap.{heap_of}
use Rattle.hm_stored.specs.declared.space.Space.{Space}
use Rattle.hm_relocate.specs.Way.{way_of}
use Rattle.hm_relocate.proofs.LeavingLemmas.{apart_has, leaves_once}
use Rattle.hm_relocate.proofs.StepLemmas.{step_leaves, unit_ends}
use Rattle.hm_relocate.proofs.UnitLemmas.{relocates_err, relocates_more}
use Rattle.hm_relocate.proofs.relocation.Relocation.unit.Goals as goal

pub returns-in_err-progress-clause-store : goal.returns-in_err-progress-clause-store
returns-in_err-progress-clause-store g c =
    let heap = λ (s : Space g.row.D.Denot g.D.Disk). heap_of (contents s.pages.store) (g.D.Disk.told s.disk) s.books in
    let faults = λ (s : Space g.row.D.Denot g.D.Disk). g.D.Disk.faults s.disk in
    let s = c.args.stored.now in
    let t = c.step.new.stored in
    let was = c.args.self.now.payloads.choice in
    let begun = c.leave_appends.new.self.payloads.choice in
    let p = err_from_is_err_and c.from_residual.result c.from_residual.ensures.1 in
    rw (p.1, p.2) (relocates_err was (faults s.space) (faults t.space) (heap s.space) (heap t.space) s.root t.root c.in_err-progress.field-0.0
    (relocates_more begun was (faults s.space) (faults t.space) (heap s.space) (heap t.space) s.root t.root _
    (λ block has. (apart_has (heap s.space).append was block (subst (λ (l : List ℕ). Contains l block) c.leave_appends.ensures.choice has)).0)
    c.in_err-progress.ensures.store))

pub returns-in_err-progress-clause-choice : goal.returns-in_err-progress-clause-choice
returns-in_err-progress-clause-choice g c =
    let heap = λ (s : Space g.row.D.Denot g.D.Disk). heap_of (contents s.pages.store) (g.D.Disk.told s.disk) s.books in
    leaves_once (heap c.args.stored.now.space) (heap c.step.new.stored.space) c.args.self.now.payloads.choice c.step.new.self.payloads.choice
    (c.in_err-progress.ensures.err ∙ c.leave_appends.ensures.choice)

pub returns-clause-choice : goal.returns-clause-choice
returns-clause-choice g c =
    let heap = λ (s : Space g.row.D.Denot g.D.Disk). heap_of (contents s.pages.store) (g.D.Disk.told s.disk) s.books in
    let s = c.args.stored.now in
    let t = c.step.new.stored in
    let begun = c.leave_appends.new.self in
    let ended = c.step.new.self in
    let now = c.leave_appends-2.new.self in
    step_leaves (way_of begun) (way_of ended) c.args.self.now.payloads.choice begun.payloads.choice ended.payloads.choice now.payloads.choice
    (heap s.space) (heap t.space) s.root t.root c.leave_appends.ensures.choice c.leave_appends-2.ensures.choice c.in_ok-progress.progress
    c.in_ok-progress.ensures.ends

pub returns-clause-ends : goal.returns-clause-ends
returns-clause-ends g c =
    let heap = λ (s : Space g.row.D.Denot g.D.Disk). heap_of (contents s.pages.store) (g.D.Disk.told s.disk) s.books in
    let s = c.args.stored.now in
    let t = c.step.new.stored in
    let was = c.args.self.now in
    let begun = c.leave_appends.new.self in
    let ended = c.step.new.self in
    let now = c.leave_appends-2.new.self in
    unit_ends (way_of begun) (way_of ended) was.payloads.choice begun.payloads.choice ended.payloads.choice now.payloads.choice (heap s.space)
    (heap t.space) s.root t.root c.leave_appends.ensures.choice c.leave_appends-2.ensures.choice (way_of was) (way_of now) c.in_ok-progress.progress
    c.leave_appends.ensures.way c.leave_appends-2.ensures.way c.in_ok-progress.ensures.ends
