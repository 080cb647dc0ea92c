use Rattle.std.proofs.Common.{◌<◌, length, arith, add-one}
use Rattle.hm_key.proofs.HeldLemmas.{NoneAt-left, NoneAt-more, IsAt-found, held_read}
use Rattle.hm_key.proofs.extent_list.ExtentList.place_of.Goals as goal

pub index-requires : goal.index-requires
index-requires c = omega (arith, NoneAt-left c.args.at c.args.self.now.list.items c.loop-at.place c.loop-at.invariant c.requires)

pub overflow_add-place : goal.overflow_add-place
overflow_add-place c = omega (arith, NoneAt-left c.args.at c.args.self.now.list.items c.loop-at.place c.loop-at.invariant c.requires)

pub loop-at-smaller : goal.loop-at-smaller
loop-at-smaller c = omega (arith, NoneAt-left c.args.at c.args.self.now.list.items c.loop-at.place c.loop-at.invariant c.requires)

pub loop-at-preserved : goal.loop-at-preserved
loop-at-preserved c =
    let within : c.loop-at.place < length c.args.self.now.list.items =
    NoneAt-left c.args.at c.args.self.now.list.items c.loop-at.place c.loop-at.invariant c.requires in
    let not_here = held_read c.args.at c.index.result.now c.args.self.now.list.items c.loop-at.place _ _ c.index.ensures c.ne.ensures c.loop-at-test.true in
    rw add-one (NoneAt-more c.args.at c.index.result.now c.args.self.now.list.items c.loop-at.place c.loop-at.invariant within not_here)

pub returns : goal.returns
returns c =
    let within : c.loop-at.place < length c.args.self.now.list.items =
    NoneAt-left c.args.at c.args.self.now.list.items c.loop-at.place c.loop-at.invariant c.requires in
    let here = held_read c.args.at c.index.result.now c.args.self.now.list.items c.loop-at.place _ _ c.index.ensures c.ne.ensures c.loop-at-test.false in
    IsAt-found c.args.at c.index.result.now c.args.self.now.list.items c.loop-at.place c.loop-at.invariant within here
