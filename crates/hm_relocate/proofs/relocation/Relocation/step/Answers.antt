-- Something moved, or nothing refers into the choice.
use Rattle.std.proofs.Common.{◌≤◌, List, arith, subst, ℕ}
use Rattle.std.specs.List.{Contains}
use Rattle.std.proofs.lemmas.Result.{err_from_is_err_and}
use Rattle.hm_pages.specs.Store.{contents}
use Rattle.hm_key.specs.declared.job.Progress.TheVariants.{Done}
use Rattle.hm_stored.specs.Heap.{heap_of}
use Rattle.hm_stored.specs.declared.space.Space.{Space}
use Rattle.hm_relocate.specs.Leaving.{HasNothingLive}
use Rattle.hm_relocate.proofs.LookedLemmas.{looked_through}
use Rattle.hm_relocate.proofs.UnitLemmas.{looks_both, part_fault, part_looked}
use Rattle.hm_relocate.proofs.relocation.Relocation.step.Goals as goal

pub returns-then-branch-clause-ends : goal.returns-then-branch-clause-ends
returns-then-branch-clause-ends g c = (c.in_ok-move_one.ensures.tries.moved c.if-branch.true, c.move_one.ensures.choice)

pub returns-in_err-end-clause-store : goal.returns-in_err-end-clause-store
returns-in_err-end-clause-store g c =
    let heap = λ (s : Space g.row.D.Denot g.D.Disk). heap_of (contents s.pages.store) (g.D.Disk.told s.disk) s.books in
    let faults = λ (s : Space g.row.D.Denot g.D.Disk). g.D.Disk.faults s.disk in
    let s = c.args.stored.now in
    let s1 = c.move_one.new.stored in
    let s2 = c.end.new.stored in
    let tries = c.in_ok-move_one.ensures.tries in
    let p = err_from_is_err_and c.from_residual-in_err-end.result c.from_residual-in_err-end.ensures.1 in
    rw (p.1, p.2) (part_fault c.args.self.now.payloads.choice (faults s.space) (faults s1.space) (faults s2.space) (heap s.space) (heap s1.space)
    (heap s2.space) s.root s1.root s2.root c.in_err-end.field-0.0 tries.part.cause.counted.never_falls (tries.none c.if-branch.false).2.elements
    c.in_err-end.ensures.cause)

pub returns-clause-store : goal.returns-clause-store
returns-clause-store g c =
    let heap = λ (s : Space g.row.D.Denot g.D.Disk). heap_of (contents s.pages.store) (g.D.Disk.told s.disk) s.books in
    let faults = λ (s : Space g.row.D.Denot g.D.Disk). g.D.Disk.faults s.disk in
    let s = c.args.stored.now in
    let s1 = c.move_one.new.stored in
    let s2 = c.end.new.stored in
    let tries = c.in_ok-move_one.ensures.tries in
    let looks =
    looks_both (heap s.space) (heap s1.space) (heap s2.space) s.root s1.root s2.root (tries.none c.if-branch.false).2
    (looked_through (heap s1.space) (heap s2.space) c.end.ensures.same s1.root s2.root c.end.ensures.rest.0) in
    let grows : faults s.space ≤ faults s2.space =
    omega (arith, tries.part.cause.counted.never_falls, c.end.ensures.cause.counted.never_falls) in
    part_looked c.args.self.now.payloads.choice (faults s.space) (faults s2.space) (heap s.space) (heap s2.space) s.root s2.root Done looks grows

pub returns-clause-ends : goal.returns-clause-ends
returns-clause-ends g c =
    let s2 = c.end.new.stored.space in
    let now = heap_of (contents s2.pages.store) (g.D.Disk.told s2.disk) s2.books in (
      c.in_ok-end.ensures.empty,
      subst (λ (choice : List ℕ). (block : ℕ) → Contains choice block → HasNothingLive now block) c.move_one.ensures.choice c.in_ok-end.ensures.unused,
    )
