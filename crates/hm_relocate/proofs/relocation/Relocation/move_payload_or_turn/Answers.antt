-- No payload lies in the choice: the reblock turns to the nodes, where one does.
use Rattle.std.proofs.Common.{◌≡◌, ◌∙◌, ◌≤◌, Option, None, ap, arith, inr, is_some, refl, true}
use Rattle.std.proofs.lemmas.Result.{err_from_is_err_and}
use Rattle.hm_key.specs.declared.base.Base.{Base}
use Rattle.hm_pages.specs.Store.{contents}
use Rattle.hm_stored.specs.Heap.{heap_of}
use Rattle.hm_stored.specs.declared.space.Space.{Space}
use Rattle.hm_relocate.specs.Unit.{LooksThrough, Way}
use Rattle.hm_relocate.specs.Way.{way_of}
use Rattle.hm_relocate.proofs.UnitLemmas.{looks_both, looks_rearranges, tries_fault, tries_moved, tries_none}
use Rattle.hm_relocate.proofs.relocation.Relocation.move_payload_or_turn.Goals as goal

pub returns-in_err-node_from-clause-tries : goal.returns-in_err-node_from-clause-tries
returns-in_err-node_from-clause-tries g c =
    let p = err_from_is_err_and c.from_residual-in_err-node_from.result c.from_residual-in_err-node_from.ensures.1 in
    let heap = λ (s : Space g.row.D.Denot g.D.Disk). heap_of (contents s.pages.store) (g.D.Disk.told s.disk) s.books in
    let s = c.args.stored.now in
    let s1 = c.move_payload.new.stored in
    let s2 = c.node_from.new.stored in
    let first = c.in_ok-move_payload.ensures.tries in
    let looked = first.none c.if-branch.false in
    rw (p.1, p.2) (tries_fault (way_of c.args.self.now) (way_of c.move_payload.new.self) c.args.self.now.payloads.choice (g.D.Disk.faults s.space.disk)
    (g.D.Disk.faults s2.space.disk) (heap s.space) (heap s2.space) s.root s2.root (heap s1.space) s1.root (g.D.Disk.faults s1.space.disk)
    first.part.cause.counted.never_falls c.in_err-node_from.field-0.0 looked.2.elements c.in_err-node_from.ensures.cause)

pub returns-then-is_none-clause-tries : goal.returns-then-is_none-clause-tries
returns-then-is_none-clause-tries g c =
    let heap = λ (s : Space g.row.D.Denot g.D.Disk). heap_of (contents s.pages.store) (g.D.Disk.told s.disk) s.books in
    let s = c.args.stored.now in
    let s1 = c.move_payload.new.stored in
    let s2 = c.node_from.new.stored in
    let first = c.in_ok-move_payload.ensures.tries in
    let looked = first.none c.if-branch.false in
    let grows : g.D.Disk.faults s.space.disk ≤ g.D.Disk.faults s2.space.disk =
    omega (arith, first.part.cause.counted.never_falls, c.node_from.ensures.cause.counted.never_falls) in
    tries_none (way_of c.args.self.now) (way_of c.move_payload.new.self) c.args.self.now.payloads.choice (g.D.Disk.faults s.space.disk)
    (g.D.Disk.faults s2.space.disk) (heap s.space) (heap s2.space) s.root s2.root
    (looked.0, looked.1, looks_both (heap s.space) (heap s1.space) (heap s2.space) s.root s1.root s2.root looked.2 c.node_from.ensures.looks) grows

pub returns-clause-tries : goal.returns-clause-tries
returns-clause-tries g c =
    let heap = λ (s : Space g.row.D.Denot g.D.Disk). heap_of (contents s.pages.store) (g.D.Disk.told s.disk) s.books in
    let s = c.args.stored.now in
    let s1 = c.move_payload.new.stored in
    let s2 = c.node_from.new.stored in
    let to : Way = record { payloads = (way_of c.move_payload.new.self).payloads; nodes = true } in
    let first = c.in_ok-move_payload.ensures.tries in
    let looked = first.none c.if-branch.false in
    let grows : g.D.Disk.faults s.space.disk ≤ g.D.Disk.faults s2.space.disk =
    omega (arith, first.part.cause.counted.never_falls, c.node_from.ensures.cause.counted.never_falls) in
    let looks : LooksThrough (heap s.space) (heap s2.space) s.root s2.root =
    looks_both (heap s.space) (heap s1.space) (heap s2.space) s.root s1.root s2.root looked.2 c.node_from.ensures.looks in
    tries_moved (way_of c.args.self.now) to c.args.self.now.payloads.choice (g.D.Disk.faults s.space.disk)
    (g.D.Disk.faults s2.space.disk) (heap s.space) (heap s2.space) s.root s2.root grows (looks_rearranges (heap s.space) (heap s2.space) s.root s2.root looks)
    (inr (inr (inr (inr (ap (λ (o : Option Base). is_some o) c.requires.payloads, refl)))))
