-- After a write the disk has the pages that are held still.
use Rattle.hm_buffer.proofs.HeldLemmas.{held_after, placed_after, size_after}
use Rattle.hm_buffer.proofs.buffered_disk.BufferedDiskDisk.write_at.Goals as goal

pub invariant_of-self : goal.invariant_of-self
invariant_of-self g c =
    let s = c.args.self.now in
    let old = g.D.Disk.told s.disk in
    let new = g.D.Disk.told c.write_at.new.self in
    record {
      sized = size_after c.args.place c.args.bytes.now old new c.write_at.result s.size c.requires.within c.write_at.ensures.ok
          c.write_at.ensures.err s.sized;
      held = held_after c.args.place c.args.bytes.now old new c.write_at.result s.slots.items c.forget.new.slots.items c.requires.within
          c.write_at.ensures.ok c.write_at.ensures.err c.forget.ensures s.held;
      placed = placed_after c.args.place _ s.slots.items c.forget.new.slots.items c.forget.ensures s.placed;
    }
