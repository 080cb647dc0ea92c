use Rattle.std.proofs.Common.{arith}
use Rattle.hm_model.proofs.laws.generated.generated_reads_are_of_the_past.Goals as goal

pub returns : goal.returns
returns c number bits some = omega arith
