use Rattle.std.proofs.Common.{refl}
use Rattle.hm_key.proofs.ExtentLemmas.{new_places}
use Rattle.hm_key.proofs.HeldLemmas.{filled_by, placed_list, placed_if}
use Rattle.hm_key.proofs.extent_list.ExtentList.place.Goals as goal

pub invariant_of-self : goal.invariant_of-self
invariant_of-self c =
    let filled = filled_by c.args.zone c.args.self.now.next c.in-Some.at c.args.bytes.now c.in_ok-all.all.items c.resize.new.self.items _ c.requires.zone
    c.requires.some (c.in-Some.ensures.some.0 refl).1 c.in-Some.ensures.value c.in-Some.ensures.parts c.in_ok-all.ensures.items c.in_ok-all.ensures.len
    c.in_ok-resize.ensures.items in
    let both = placed_if _ c.args.zone c.args.self.now.next c.in-Some.at c.args.bytes.now c.resize.new.self c.args.self.now.list.items c.push.new.self.items
    filled c.args.self.now.live c.args.self.now.below c.push.ensures.items in
    record { live = both.0; below = both.1 }

pub returns-clause-ok : goal.returns-clause-ok
returns-clause-ok c =
    let filled = filled_by c.args.zone c.args.self.now.next c.in-Some.at c.args.bytes.now c.in_ok-all.all.items c.resize.new.self.items _ c.requires.zone
    c.requires.some (c.in-Some.ensures.some.0 refl).1 c.in-Some.ensures.value c.in-Some.ensures.parts c.in_ok-all.ensures.items c.in_ok-all.ensures.len
    c.in_ok-resize.ensures.items in
    rw (placed_list c.in-Some.at c.resize.new.self c.args.self.now.list.items c.push.new.self.items c.in_ok-push.ensures.items)
    (new_places c.args.zone c.args.self.now.next c.in-Some.at c.args.bytes.now c.resize.new.self.items filled _ c.args.self.now.live c.args.self.now.below)
