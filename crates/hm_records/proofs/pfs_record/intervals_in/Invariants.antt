use Rattle.std.proofs.Common.{◌≡◌, ◌%◌, ◌++◌, length}
use Rattle.hm_retain.specs.Intervals.{numbers_of}
use Rattle.hm_records.specs.PfsRecord.{AreIds, intervals_bytes}
use Rattle.hm_records.proofs.pfs_record.intervals_in.Given as goal

-- the intervals so far, and what is left
abbrev pub invariant-loop-rest : goal.invariant-loop-rest
invariant-loop-rest l = record {
  spelled : l.fn.bytes ≡ intervals_bytes (numbers_of l.list.items) ++ l.rest;
  ids : AreIds (numbers_of l.list.items);
  whole : length l.rest % 16 ≡ 0;
}

abbrev pub decreases-loop-rest : goal.decreases-loop-rest
decreases-loop-rest l = length l.rest
