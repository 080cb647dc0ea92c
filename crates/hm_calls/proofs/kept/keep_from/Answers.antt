use Rattle.hm_calls.proofs.RetentionLemmas.{never_many}
use Rattle.hm_calls.proofs.kept.keep_from.Goals as goal

pub unreachable-requires : goal.unreachable-requires
unreachable-requires c =
    never_many c.args.retention.now c.args.id.0 c.in-Err-TooMany.field-0-0 c.pairs.ensures.retention
    (rw c.in-Err-TooMany.field-0-is at c.in-Err-TooMany.ensures.err)
