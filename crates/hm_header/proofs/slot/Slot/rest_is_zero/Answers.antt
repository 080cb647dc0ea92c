use Rattle.std.proofs.Common.{arith}
use Rattle.hm_header.proofs.NumberLemmas.{zero_part}
use Rattle.hm_header.proofs.slot.Slot.rest_is_zero.Goals as goal

pub returns : goal.returns
returns c =
    zero_part c.self.inside.bytes.now c.args.self.now 72 16311 c.is_zero.result c.self.view_is
    (omega (arith, c.self.invariant.0)) c.is_zero.ensures
