use Rattle.std.proofs.Common.{length, take, ◌-◌, ◌≡◌, ◌≤◌, ◌+◌, IfSome, slice_range}
use Rattle.hm_disk.specs.Moments.{SameLeft}
use Rattle.hm_disk.proofs.transfer.read_all_at.Given as goal

-- so many bytes are filled in, and the disk is as it was
abbrev pub invariant-loop-done : goal.invariant-loop-done
invariant-loop-done g l = record {
  sized : length l.buf ≡ length l.initial.buf;
  within : l.done ≤ length l.buf;
  filled : IfSome (g.D.Disk.told l.fn.disk) (λ t. take l.done l.buf ≡ slice_range t.bytes l.place (l.place + l.done));
  same : g.D.Disk.told l.disk ≡ g.D.Disk.told l.fn.disk;
  any_moment : SameLeft (g.D.Disk.left_since l.fn.disk) (g.D.Disk.left_since l.disk);
  past : g.D.Disk.past l.disk ≡ g.D.Disk.past l.fn.disk;
  counted : g.D.Disk.faults l.fn.disk ≤ g.D.Disk.faults l.disk;
}

abbrev pub decreases-loop-done : goal.decreases-loop-done
decreases-loop-done g l = length l.initial.buf - l.done
