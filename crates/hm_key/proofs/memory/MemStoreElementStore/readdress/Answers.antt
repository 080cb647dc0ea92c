use Rattle.hm_key.specs.Key.{key_of}
use Rattle.hm_key.specs.Memory.{mark_of}
use Rattle.hm_key.proofs.MemoryLemmas.{marked_moved}
use Rattle.hm_key.proofs.memory.MemStoreElementStore.readdress.Goals as goal

pub invariant_of-self : goal.invariant_of-self
invariant_of-self c = record {
  marked =
      rw c.readdress.ensures (marked_moved (mark_of c.args.self.now.marks.list.items)
      (key_of c.args.at.now) c.args.to c.args.self.now.elements.list.items c.args.self.now.marked);
}
