use Rattle.std.proofs.lemmas.Bool.{false≢true}
use Rattle.hm_records.proofs.plain.bytes.is_counted.Goals as goal

pub returns-in-None : goal.returns-in-None
returns-in-None c = (λ is. absurd (false≢true is), λ has. absurd (c.in-None.ensures has.0 has.1))
