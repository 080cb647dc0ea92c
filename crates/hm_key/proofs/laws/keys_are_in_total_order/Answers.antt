use Rattle.hm_key.proofs.KeyLemmas.{key_total, key_same}
use Rattle.hm_key.proofs.laws.keys_are_in_total_order.Goals as goal

pub returns-clause-total : goal.returns-clause-total
returns-clause-total c = key_total

pub returns-clause-apart : goal.returns-clause-apart
returns-clause-apart c = key_same
