use Rattle.hm_key.specs.Key.{key_of}
use Rattle.hm_key.specs.Memory.{mark_of}
use Rattle.hm_key.proofs.MemoryLemmas.{marked_removed}
use Rattle.hm_key.proofs.RaiseLemmas.{stay_join}
use Rattle.std.proofs.Common.{Some, refl, ap}
use Rattle.hm_key.proofs.memory.MemStoreElementStore.remove.Goals as goal

pub invariant_of-self : goal.invariant_of-self
invariant_of-self c = record {
  marked =
      rw c.remove.ensures (marked_removed (mark_of c.args.self.now.marks.list.items)
      (key_of c.args.at.now) c.args.self.now.elements.list.items c.args.self.now.marked);
}

pub returns-clause-ok : goal.returns-clause-ok
returns-clause-ok c = record {
  elements = ap Some c.remove.ensures;
  mark = stay_join (key_of c.args.at.now) (mark_of c.args.self.now.marks.list.items) (mark_of c.args.self.now.marks.list.items) (λ key. refl);
  extents = refl;
}
