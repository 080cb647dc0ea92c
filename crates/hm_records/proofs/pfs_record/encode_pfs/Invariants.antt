use Rattle.std.proofs.Common.{◌≡◌, ◌++◌, take}
use Rattle.hm_retain.specs.Intervals.{numbers_of}
use Rattle.hm_records.specs.PfsRecord.{head_bytes, intervals_bytes}
use Rattle.hm_records.proofs.pfs_record.encode_pfs.Given as goal

-- the head, and the intervals so far
abbrev pub invariant-loop-pair : goal.invariant-loop-pair
invariant-loop-pair l = l.bytes.items ≡ head_bytes l.value ++ intervals_bytes (numbers_of (take l.pair-index l.pairs))
