use Rattle.std.proofs.Common.{arith, length}
use Rattle.hm_key.specs.Memory.{extents_of}
use Rattle.hm_calls_tests.proofs.TestLemmas.{made_placed}
use Rattle.hm_calls_tests.proofs.testing.forge_as.Goals as goal

pub insert-requires-clause-room : goal.insert-requires-clause-room
insert-requires-clause-room c = omega (arith, c.in_ok-element.ensures.space.room 8)

pub returns : goal.returns
returns c =
    let placed = c.in_ok-element.ensures.ok in
    let done = c.in_ok-insert.ensures.ok in
    let base = record c.args.about.now { create = c.args.create; delete = c.args.delete } in
    made_placed (record { base = base; payload = c.in_ok-element.field-0; len = length c.args.bytes.now }) c.args.volume.now.store.elements.list.items
    c.place.new.self.elements.list.items c.insert.new.self.elements.list.items (extents_of c.args.volume.now.store.extents.list.items)
    (extents_of c.place.new.self.extents.list.items) (extents_of c.insert.new.self.extents.list.items) c.args.bytes.now
    c.args.volume.now.next _
    placed.extents.elements placed.extents.extents done.elements done.extents (grind arith) (omega arith) c.place.new.self.extents.live
    (omega (arith, c.above.ensures.0, c.above-volume.ensures.0)) (omega (arith, c.above.ensures.1, c.above-volume.ensures.0))
    (omega (arith, c.above-volume.ensures.1))
    c.requires
