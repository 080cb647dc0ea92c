use Rattle.std.proofs.Common.{arith, length-take}
use Rattle.hm_header.proofs.slot.first_page.Goals as goal

pub slice_bounds-copy_from-end : goal.slice_bounds-copy_from-end
slice_bounds-copy_from-end c = omega (arith, length-take 4096 c.args.bytes.now)

pub copy_from-requires : goal.copy_from-requires
copy_from-requires c = omega (arith, length-take 4096 c.args.bytes.now)
