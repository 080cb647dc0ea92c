use Rattle.std.proofs.Common.{arith}
use Rattle.hm_key.specs.Memory.{extents_of}
use Rattle.hm_key.proofs.AddLemmas.{balanced_placed}
use Rattle.hm_reblock_tests.proofs.tests.add.Goals as goal

pub insert-requires-clause-room : goal.insert-requires-clause-room
insert-requires-clause-room c = omega (arith, c.in_ok-element.ensures.space.room 8)

pub returns : goal.returns
returns c =
    let placed = c.in_ok-element.ensures.ok in
    let done = c.in_ok-insert.ensures.ok in
    balanced_placed (record { base = c.args.base.now; payload = c.in_ok-element.field-0; len = 16 }) c.args.store.now.elements.list.items
    c.place.new.self.elements.list.items c.insert.new.self.elements.list.items (extents_of c.args.store.now.extents.list.items)
    (extents_of c.place.new.self.extents.list.items) (extents_of c.insert.new.self.extents.list.items) _
    placed.extents.elements placed.extents.extents done.elements done.extents (omega arith) (omega arith) c.place.new.self.extents.live c.requires
