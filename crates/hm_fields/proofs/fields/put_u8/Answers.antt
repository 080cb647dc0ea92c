use Rattle.std.proofs.Common.{arith}
use Rattle.hm_fields.proofs.FieldLemmas.{get_put, byte_put_is}
use Rattle.hm_fields.proofs.fields.put_u8.Goals as goal

pub returns-clause-change : goal.returns-clause-change
returns-clause-change c =
    byte_put_is c.page.inside.bytes c.args.page.now c.args.at c.args.value c.page.view_is
    (omega arith) (omega (arith, c.ranges.value.fits))

pub returns-clause-held : goal.returns-clause-held
returns-clause-held c =
    rw (returns-clause-change c) (get_put c.args.page.now c.args.at 1 c.args.value (omega (arith, c.ranges.value.fits)))
