use Rattle.std.proofs.Common.{◌<◌, length, arith, add-one}
use Rattle.hm_key.specs.Key.{key_of}
use Rattle.hm_key.proofs.PlaceLemmas.{NoneBefore-left, NoneBefore-more, IsPlace-found, stands_read, not_equal}
use Rattle.hm_key.proofs.element_list.ElementList.place_of.Goals as goal

pub index-requires : goal.index-requires
index-requires c = omega (arith, NoneBefore-left (key_of c.args.at.now) c.args.self.now.list.items c.loop-place.place c.loop-place.invariant c.requires)

pub overflow_add-place : goal.overflow_add-place
overflow_add-place c = omega (arith, NoneBefore-left (key_of c.args.at.now) c.args.self.now.list.items c.loop-place.place c.loop-place.invariant c.requires)

pub loop-place-smaller : goal.loop-place-smaller
loop-place-smaller c = omega (arith, NoneBefore-left (key_of c.args.at.now) c.args.self.now.list.items c.loop-place.place c.loop-place.invariant c.requires)

pub loop-place-preserved : goal.loop-place-preserved
loop-place-preserved c =
    let within : c.loop-place.place < length c.args.self.now.list.items =
    NoneBefore-left (key_of c.args.at.now) c.args.self.now.list.items c.loop-place.place c.loop-place.invariant c.requires in
    let not_here = stands_read (key_of c.args.at.now) c.index.result.now c.args.self.now.list.items c.loop-place.place c.order.result _ c.index.ensures
    c.order.ensures (not_equal _ _ _ c.ne.ensures c.loop-place-test.true) in
    rw add-one (NoneBefore-more (key_of c.args.at.now) c.index.result.now c.args.self.now.list.items c.loop-place.place c.loop-place.invariant within not_here)

pub returns : goal.returns
returns c =
    let within : c.loop-place.place < length c.args.self.now.list.items =
    NoneBefore-left (key_of c.args.at.now) c.args.self.now.list.items c.loop-place.place c.loop-place.invariant c.requires in
    let here = stands_read (key_of c.args.at.now) c.index.result.now c.args.self.now.list.items c.loop-place.place c.order.result _ c.index.ensures
    c.order.ensures (not_equal _ _ _ c.ne.ensures c.loop-place-test.false) in
    IsPlace-found (key_of c.args.at.now) c.index.result.now c.args.self.now.list.items c.loop-place.place c.loop-place.invariant within here
