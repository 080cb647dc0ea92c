use Rattle.std.specs.Prelude.{slice_index}
use Rattle.hm_files.proofs.SpanLemmas.{filled_long, filled_part}
use Rattle.hm_files.proofs.source.Source.piece.Goals as goal

pub returns-in-Filled-clause-same : goal.returns-in-Filled-clause-same
returns-in-Filled-clause-same c =
    rw c.in-Filled.is (λ k below.
    filled_part c.in-Filled.block.now c.args.from c.args.to c.in-Filled.field-1 k (rw c.in-Filled.is at c.requires.source) c.requires.few
    (filled_long c.in-Filled.field-1 c.args.to (slice_index c.in-Filled.block.now 0) (rw c.in-Filled.is at c.requires.inside)) below)
