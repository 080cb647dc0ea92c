use Rattle.std.proofs.Common.{arith}
use Rattle.hm_key.specs.Memory.{extents_of}
use Rattle.hm_key.proofs.ExtentLemmas.{extents_given, EndBy-given}
use Rattle.hm_key.proofs.HeldLemmas.{IsAt-within, given_here, gone_here, more_twice}
use Rattle.hm_key.proofs.extent_list.ExtentList.give_back.Goals as goal

pub index-requires : goal.index-requires
index-requires c = omega (arith, IsAt-within c.args.at c.args.self.now.list.items c.place_of-place.result c.place_of-place.ensures)

pub index_mut-requires : goal.index_mut-requires
index_mut-requires c = omega (arith, IsAt-within c.args.at c.args.self.now.list.items c.place_of-place.result c.place_of-place.ensures)

pub overflow_sub-index_mut : goal.overflow_sub-index_mut
overflow_sub-index_mut c =
    omega (
      arith,
      more_twice c.args.at c.index.result.now c.index_mut.result.now c.args.self.now.list.items c.place_of-place.result c.place_of-place.ensures
          c.index.ensures c.index_mut.ensures.value c.if-index-gt1.true,
    )

pub invariant_of-self : goal.invariant_of-self
invariant_of-self c = record {
  live =
      rw (given_here c.args.at c.index_mut.result.now c.args.self.now.list.items c.place_of-place.result c.place_of-place.ensures c.index_mut.ensures.value
      (more_twice c.args.at c.index.result.now c.index_mut.result.now c.args.self.now.list.items c.place_of-place.result c.place_of-place.ensures
      c.index.ensures c.index_mut.ensures.value c.if-index-gt1.true)) (extents_given c.args.at (extents_of c.args.self.now.list.items) c.args.self.now.live);
  below =
      rw (given_here c.args.at c.index_mut.result.now c.args.self.now.list.items c.place_of-place.result c.place_of-place.ensures c.index_mut.ensures.value
      (more_twice c.args.at c.index.result.now c.index_mut.result.now c.args.self.now.list.items c.place_of-place.result c.place_of-place.ensures
      c.index.ensures c.index_mut.ensures.value c.if-index-gt1.true))
      (EndBy-given c.args.self.now.next c.args.at (extents_of c.args.self.now.list.items) c.args.self.now.below);
}

pub returns-then-index-gt1 : goal.returns-then-index-gt1
returns-then-index-gt1 c =
    (given_here c.args.at c.index_mut.result.now c.args.self.now.list.items c.place_of-place.result c.place_of-place.ensures c.index_mut.ensures.value
    (more_twice c.args.at c.index.result.now c.index_mut.result.now c.args.self.now.list.items c.place_of-place.result c.place_of-place.ensures c.index.ensures
    c.index_mut.ensures.value c.if-index-gt1.true))

pub remove-requires : goal.remove-requires
remove-requires c = omega (arith, IsAt-within c.args.at c.args.self.now.list.items c.place_of-place.result c.place_of-place.ensures)

pub invariant_of-self-else-index-gt1 : goal.invariant_of-self-else-index-gt1
invariant_of-self-else-index-gt1 c =
    let gone = gone_here c.args.at c.index.result.now c.args.self.now.list.items c.place_of-place.result c.place_of-place.ensures c.index.ensures
    (omega arith) c.args.self.now.live in
    record {
      live = rw (c.remove.ensures.items, gone) (extents_given c.args.at (extents_of c.args.self.now.list.items) c.args.self.now.live);
      below = rw (c.remove.ensures.items, gone) (EndBy-given c.args.self.now.next c.args.at (extents_of c.args.self.now.list.items) c.args.self.now.below);
    }

pub returns-else-index-gt1 : goal.returns-else-index-gt1
returns-else-index-gt1 c =
    rw c.remove.ensures.items (gone_here c.args.at c.index.result.now c.args.self.now.list.items c.place_of-place.result c.place_of-place.ensures
    c.index.ensures (omega arith) c.args.self.now.live)
