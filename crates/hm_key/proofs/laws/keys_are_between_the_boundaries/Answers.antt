use Rattle.std.proofs.Common.{arith}
use Rattle.hm_key.specs.Key.{least_key, greatest_key}
use Rattle.hm_key.proofs.KeyLemmas.{key_from_fields}
use Rattle.hm_key.proofs.laws.keys_are_between_the_boundaries.Goals as goal

pub returns-clause-least : goal.returns-clause-least
returns-clause-least c key = key_from_fields least_key key (omega arith) (omega arith) (omega arith) (omega arith) (omega arith)

pub returns-clause-greatest : goal.returns-clause-greatest
returns-clause-greatest c key l o r k n = key_from_fields key greatest_key (omega arith) (omega arith) (omega arith) (omega arith) (omega arith)
