use Rattle.std.proofs.Common.{◌∙◌, append_assoc}
use Rattle.hm_records.specs.PfsRecord.{interval_bytes}
use Rattle.hm_records.proofs.pfs_record.put_interval.Goals as goal

pub returns : goal.returns
unfolding interval_bytes
returns c =
    c.in_ok-extend_from_slice-2.ensures.items
    ∙ rw (c.in_ok-extend_from_slice.ensures.items, c.to_le_bytes-2.ensures, c.to_le_bytes.ensures)
    (append_assoc c.args.bytes.now.items _ _)
