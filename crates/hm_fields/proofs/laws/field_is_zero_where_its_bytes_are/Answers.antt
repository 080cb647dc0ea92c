use Rattle.hm_fields.proofs.ByteLemmas.{zero_bytes, zero_field}
use Rattle.hm_fields.proofs.laws.field_is_zero_where_its_bytes_are.Goals as goal

pub returns-clause-there : goal.returns-clause-there
returns-clause-there c = zero_bytes

pub returns-clause-back : goal.returns-clause-back
returns-clause-back c = zero_field
