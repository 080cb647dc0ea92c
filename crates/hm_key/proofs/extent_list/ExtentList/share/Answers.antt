use Rattle.std.proofs.Common.{arith}
use Rattle.hm_key.specs.Memory.{extents_of}
use Rattle.hm_key.proofs.ExtentLemmas.{extents_shared, EndBy-shared}
use Rattle.hm_key.proofs.HeldLemmas.{IsAt-within, shared_here, live_here}
use Rattle.hm_key.proofs.extent_list.ExtentList.share.Goals as goal

pub index_mut-requires : goal.index_mut-requires
index_mut-requires c = omega (arith, IsAt-within c.args.at c.args.self.now.list.items c.place_of-place.result c.place_of-place.ensures)

pub overflow_add-index_mut : goal.overflow_add-index_mut
overflow_add-index_mut c =
    omega (
      arith,
      (live_here c.args.at c.index_mut.result.now c.args.self.now.list.items c.place_of-place.result c.place_of-place.ensures
          c.index_mut.ensures.value c.args.self.now.live).shared,
    )

pub invariant_of-self : goal.invariant_of-self
invariant_of-self c =
    let list = shared_here c.args.at c.index_mut.result.now c.args.self.now.list.items c.place_of-place.result c.place_of-place.ensures
    c.index_mut.ensures.value in
    record {
      live = rw list (extents_shared c.args.at (extents_of c.args.self.now.list.items) c.requires c.args.self.now.live);
      below = rw list (EndBy-shared c.args.self.now.next c.args.at (extents_of c.args.self.now.list.items) c.args.self.now.below);
    }

pub returns : goal.returns
returns c = shared_here c.args.at c.index_mut.result.now c.args.self.now.list.items c.place_of-place.result c.place_of-place.ensures c.index_mut.ensures.value
