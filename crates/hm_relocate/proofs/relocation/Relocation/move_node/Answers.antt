-- A node of the choice moves.
use Rattle.std.proofs.Common.{◌≡◌, ◌∙◌, ◌≤◌, Option, ap, arith, inl, inr, refl, subst, sym, true}
use Rattle.std.specs.Prelude.{IfSome, IsSome, Some}
use Rattle.std.proofs.lemmas.Result.{err_from_is_err_and}
use Rattle.hm_types.specs.Space.{in_zone, reserve_of}
use Rattle.hm_fields.specs.Pages.{PageMap}
use Rattle.hm_btree.specs.Calls.Choice.{FindsNode}
use Rattle.hm_btree.specs.Calls.Move.{Exchanges}
use Rattle.hm_btree.specs.declared.space.TheConstants.{NODE_BYTES}
use Rattle.hm_key.proofs.ChargeLemmas.{charges_admitted}
use Rattle.hm_pages.specs.Store.{contents}
use Rattle.hm_search.specs.declared.subtree.Subtree.{Subtree}
use Rattle.hm_stored.specs.Heap.{free_of, heap_of, pages_of, room_of}
use Rattle.hm_stored.specs.Moving.{StandsIn}
use Rattle.hm_stored.specs.declared.space.Space.{Space}
use Rattle.hm_relocate.specs.Unit.{Way}
use Rattle.hm_relocate.specs.Way.{way_of}
use Rattle.hm_relocate.proofs.UnitLemmas.{moves_node, node_there, rearranges_later, spends_less, spends_node, stands_still}
use Rattle.hm_relocate.proofs.UnitLemmas.{tries_fault, tries_moved, tries_none, tries_room}
use Rattle.hm_relocate.proofs.relocation.Relocation.move_node.Goals as goal

pub returns-in_default-clause-tries : goal.returns-in_default-clause-tries
returns-in_default-clause-tries g c =
    let heap = λ (s : Space g.row.D.Denot g.D.Disk). heap_of (contents s.pages.store) (g.D.Disk.told s.disk) s.books in
    let s = c.args.stored.now in
    let s1 = c.node_from.new.stored in
    let way = way_of c.args.self.now in
    tries_none way way c.args.self.now.payloads.choice (g.D.Disk.faults s.space.disk) (g.D.Disk.faults s1.space.disk) (heap s.space) (heap s1.space)
    s.root s1.root (inl refl, refl, c.node_from.ensures.looks) c.node_from.ensures.cause.counted.never_falls

pub returns-in_err-admit-clause-tries : goal.returns-in_err-admit-clause-tries
returns-in_err-admit-clause-tries g c =
    let p = err_from_is_err_and c.from_residual-in_err-admit.result c.from_residual-in_err-admit.ensures.1 in
    let heap = λ (s : Space g.row.D.Denot g.D.Disk). heap_of (contents s.pages.store) (g.D.Disk.told s.disk) s.books in
    let s = c.args.stored.now in
    let s1 = c.node_from.new.stored in
    let s2 = c.admit.new.self in
    let way = way_of c.args.self.now in
    let there = node_there c.args.self.now.payloads.choice (heap s.space) (heap s1.space) c.in_ok-place.field-0 c.in-Some.place c.in-Some.is
    c.node_from.ensures.nodes c.in_ok-place.ensures.there in
    rw (p.1, p.2) (tries_room way way c.args.self.now.payloads.choice (g.D.Disk.faults s.space.disk) (g.D.Disk.faults s2.space.disk)
    (heap s.space) (heap s2.space)
    s.root s2.root (heap s1.space) s1.root (g.D.Disk.faults s1.space.disk) c.node_from.ensures.cause.counted.never_falls c.only.result 8
    c.in_err-admit.field-0.0 c.node_from.ensures.looks c.only.ensures (inl (refl, there)) c.in_err-admit.ensures.cause c.in_err-admit.ensures.answers.no_space)

pub move_node-requires-clause-there : goal.move_node-requires-clause-there
move_node-requires-clause-there g c =
    let heap = λ (s : Space g.row.D.Denot g.D.Disk). heap_of (contents s.pages.store) (g.D.Disk.told s.disk) s.books in
    stands_still c.args.self.now.payloads.choice c.in-Some.place (heap c.node_from.new.stored.space) (heap c.admit.new.self.space)
    c.in_ok-admit.ensures.nodes
    (subst (λ (found : Option Subtree). IfSome found (StandsIn c.args.self.now.payloads.choice (heap c.node_from.new.stored.space))) c.in-Some.is
    c.in_ok-place.ensures.there)

pub move_node-requires-clause-room : goal.move_node-requires-clause-room
move_node-requires-clause-room g c =
    let room = c.in_ok-admit.ensures.answers.ok.reserve 8 c.only.ensures.named in
    omega (arith, room)

pub returns-in_err-_to-clause-tries : goal.returns-in_err-_to-clause-tries
returns-in_err-_to-clause-tries g c =
    let p = err_from_is_err_and c.from_residual-in_err-_to.result c.from_residual-in_err-_to.ensures.1 in
    let heap = λ (s : Space g.row.D.Denot g.D.Disk). heap_of (contents s.pages.store) (g.D.Disk.told s.disk) s.books in
    let s = c.args.stored.now in
    let s2 = c.admit.new.self in
    let s4 = c.move_node.new.self in
    let way = way_of c.args.self.now in
    let grows : g.D.Disk.faults s.space.disk ≤ g.D.Disk.faults s2.space.disk =
    omega (arith, c.node_from.ensures.cause.counted.never_falls, c.admit.ensures.cause.counted.never_falls) in
    rw (p.1, p.2) (tries_fault way way c.args.self.now.payloads.choice (g.D.Disk.faults s.space.disk) (g.D.Disk.faults s4.space.disk)
    (heap s.space) (heap s4.space)
    s.root s4.root (heap s2.space) s2.root (g.D.Disk.faults s2.space.disk) grows c.in_err-_to.field-0.0
    (c.in_ok-admit.ensures.answers.content.elements ∙ c.node_from.ensures.looks.elements)
    c.in_err-_to.ensures.cause)

pub returns-clause-tries : goal.returns-clause-tries
returns-clause-tries g c =
    let heap = λ (s : Space g.row.D.Denot g.D.Disk). heap_of (contents s.pages.store) (g.D.Disk.told s.disk) s.books in
    let s = c.args.stored.now in
    let s1 = c.node_from.new.stored in
    let s2 = c.admit.new.self in
    let s4 = c.move_node.new.self in
    let choice = c.args.self.now.payloads.choice in
    let way = way_of c.args.self.now in
    let to : Way = record { payloads = way.payloads; nodes = true } in
    let first = c.node_from.ensures.looks in
    let content = c.in_ok-admit.ensures.answers.content in
    let admitted = c.in_ok-admit.ensures.answers.ok in
    let nodes : pages_of (heap s2.space) ≡ pages_of (heap s.space) = c.in_ok-admit.ensures.nodes ∙ c.node_from.ensures.nodes in
    let grows : g.D.Disk.faults s.space.disk ≤ g.D.Disk.faults s4.space.disk =
    omega (
      arith,
      c.node_from.ensures.cause.counted.never_falls,
      c.admit.ensures.cause.counted.never_falls,
      c.move_node.ensures.cause.counted.never_falls,
    ) in
    let charged =
    charges_admitted room_of free_of c.only.result 0 (heap s1.space) (heap s2.space)
    (record { enough = admitted.enough; no_more = admitted.no_more; paid = admitted.paid; reserve = admitted.reserve })
    c.in_ok-admit.ensures.answers.whole c.in_ok-admit.ensures.answers.room in
    let moved = c.in_ok-_to.ensures.ok in
    let there = subst (λ (found : Option Subtree). IfSome found (StandsIn choice (heap s1.space))) c.in-Some.is c.in_ok-place.ensures.there in
    let did =
    moves_node (heap s1.space) (heap s2.space) s1.root s2.root content.elements content.extents content.mark charged (heap s4.space) s4.root
    c.in-Some.place.at c.in_ok-_to._to moved
    (spends_less (in_zone 8 NODE_BYTES) reserve_of (heap s2.space) (heap s4.space) spends_node c.move_node.ensures.stays.spent) in
    tries_moved way to choice (g.D.Disk.faults s.space.disk) (g.D.Disk.faults s4.space.disk) (heap s.space) (heap s4.space)
    s.root s4.root grows (rearranges_later (heap s.space) (heap s1.space) s.root s1.root first (heap s4.space) s4.root did)
    (inr (inr (inr (inl (record {
      at = c.in-Some.place.at;
      to = c.in_ok-_to._to;
      lies = subst (λ (o : Option PageMap). IfSome o (λ map. FindsNode choice map (Some c.in-Some.place.at))) c.node_from.ensures.nodes there;
      moves = subst (λ (o : Option PageMap). IfSome o (λ map. IfSome (pages_of (heap s4.space)) (Exchanges c.in-Some.place.at c.in_ok-_to._to map))) nodes
          moved.moves;
    })))))
