use Rattle.hm_key.specs.Memory.{mark_of}
use Rattle.hm_key.proofs.MemoryLemmas.{marked_if}
use Rattle.hm_key.proofs.memory.MemStoreElementStore.insert.Goals as goal

pub invariant_of-self-2 : goal.invariant_of-self-2
invariant_of-self-2 c =
    let raised = rw c.max.ensures at c.in_ok-raise.ensures.ok in
    record {
      marked = marked_if c.insert.result (mark_of c.args.self.now.marks.list.items)
          (mark_of c.raise.new.self.list.items) c.args.e.now c.args.self.now.elements.list.items c.insert.new.self.list.items raised c.args.self.now.marked
          c.insert.ensures.ok c.insert.ensures.err;
    }
