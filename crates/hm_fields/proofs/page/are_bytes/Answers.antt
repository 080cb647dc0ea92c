use Rattle.std.proofs.Common.{arith}
use Rattle.hm_fields.specs.Fields.{get}
use Rattle.hm_fields.proofs.page.are_bytes.Goals as goal

pub returns : goal.returns
unfolding get
returns c = λ k. omega (arith, c.type_inv.bytes k)
