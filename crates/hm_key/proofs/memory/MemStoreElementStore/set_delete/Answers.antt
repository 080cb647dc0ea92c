use Rattle.hm_key.specs.Key.{key_of}
use Rattle.hm_key.specs.Memory.{mark_of}
use Rattle.hm_key.proofs.MemoryLemmas.{marked_closed}
use Rattle.hm_key.proofs.memory.MemStoreElementStore.set_delete.Goals as goal

pub invariant_of-self-2 : goal.invariant_of-self-2
invariant_of-self-2 c = record {
  marked =
      rw c.set_delete.ensures (marked_closed (mark_of c.args.self.now.marks.list.items) (mark_of c.raise.new.self.list.items)
      (key_of c.args.at.now) c.args.delete c.args.self.now.elements.list.items c.in_ok-raise.ensures.ok c.args.self.now.marked);
}
