-- No node lies in the choice.
use Rattle.std.proofs.Common.{List, ℕ, subst}
use Rattle.hm_pages.specs.Store.{contents}
use Rattle.hm_stored.specs.Heap.{heap_of}
use Rattle.hm_stored.specs.declared.space.Space.{Space}
use Rattle.hm_relocate.specs.Unit.{Tries}
use Rattle.hm_relocate.specs.Way.{way_of}
use Rattle.hm_relocate.proofs.UnitLemmas.{tries_later}
use Rattle.hm_relocate.proofs.relocation.Relocation.move_first.Goals as goal

pub returns-clause-tries : goal.returns-clause-tries
returns-clause-tries g c =
    let heap = λ (s : Space g.row.D.Denot g.D.Disk). heap_of (contents s.pages.store) (g.D.Disk.told s.disk) s.books in
    let faults = λ (s : Space g.row.D.Denot g.D.Disk). g.D.Disk.faults s.disk in
    let s = c.args.stored.now in
    let s1 = c.move_node.new.stored in
    let s2 = c.move_payload.new.stored in
    let j = c.args.self.now in
    let j1 = c.move_node.new.self in
    let j2 = c.move_payload.new.self in
    let looked = c.in_ok-move_node.ensures.tries.none c.if-branch.false in
    tries_later (heap s.space) (heap s1.space) s.root s1.root looked.2 (way_of j) (way_of j1) (way_of j2) j.payloads.choice (faults s.space)
    (faults s1.space) (faults s2.space) (heap s2.space) s2.root c.move_payload.result looked.0 looked.1 (c.in_ok-move_node.ensures.nodes c.if-branch.false)
    c.in_ok-move_node.ensures.tries.part.cause.counted.never_falls
    (subst (λ (choice : List ℕ). Tries (way_of j1) (way_of j2) choice (faults s1.space) (faults s2.space) (heap s1.space) (heap s2.space)
    s1.root s2.root c.move_payload.result) c.move_node.ensures.choice c.move_payload.ensures.tries)
