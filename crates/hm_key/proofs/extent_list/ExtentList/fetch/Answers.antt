use Rattle.std.proofs.Common.{◌≤◌, length, arith, refl}
use Rattle.std.proofs.lemmas.List.{length-take}
use Rattle.hm_key.proofs.HeldLemmas.{IsAt-within, extent_at-here}
use Rattle.hm_key.proofs.extent_list.ExtentList.fetch.Goals as goal

pub index-requires : goal.index-requires
index-requires c = omega (arith, IsAt-within c.args.at c.args.self.now.list.items c.place_of-place.result c.place_of-place.ensures)

pub slice_bounds-copy_from_slice-end : goal.slice_bounds-copy_from_slice-end
slice_bounds-copy_from_slice-end c =
    let there = extent_at-here c.args.at c.index.result.now c.args.self.now.list.items c.place_of-place.result c.place_of-place.ensures c.index.ensures in
    let long = rw there at c.requires in
    let most : length c.args.buf.now ≤ length c.deref.result.now = rw c.deref.ensures.value long in
    omega (arith, length-take (length c.args.buf.now) c.deref.result.now)

pub copy_from_slice-requires : goal.copy_from_slice-requires
copy_from_slice-requires c =
    let there = extent_at-here c.args.at c.index.result.now c.args.self.now.list.items c.place_of-place.result c.place_of-place.ensures c.index.ensures in
    let long = rw there at c.requires in
    let most : length c.args.buf.now ≤ length c.deref.result.now = rw c.deref.ensures.value long in
    omega (arith, length-take (length c.args.buf.now) c.deref.result.now)

pub returns : goal.returns
returns c =
    let there = extent_at-here c.args.at c.index.result.now c.args.self.now.list.items c.place_of-place.result c.place_of-place.ensures c.index.ensures in
    rw (there, c.copy_from_slice.ensures.after, c.deref.ensures.value) refl
