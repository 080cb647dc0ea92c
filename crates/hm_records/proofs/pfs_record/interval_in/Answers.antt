use Rattle.std.proofs.Common.{ap, ◌∙◌, List, ℕ, arith}
use Rattle.byteorder.specs.Endian.{little_number}
use Rattle.hm_records.proofs.IntervalLemmas.{interval_read}
use Rattle.hm_records.proofs.pfs_record.interval_in.Goals as goal

pub returns-clause-spelled : goal.returns-clause-spelled
returns-clause-spelled c =
    interval_read c.args.bytes.now c.read_u64-first.result c.read_u64-last.result (λ i. omega (arith, c.type_inv.bytes i)) c.requires
    (c.read_u64-first.ensures ∙ ap (λ (xs : List ℕ). little_number 8 xs) c.split_at.ensures.front)
    (c.read_u64-last.ensures ∙ ap (λ (xs : List ℕ). little_number 8 xs) c.split_at.ensures.back)
