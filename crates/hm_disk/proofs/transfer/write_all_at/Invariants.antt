use Rattle.std.proofs.Common.{◌≡◌, length, ◌-◌, ◌≤◌}
use Rattle.hm_types.specs.Told.{BothTell}
use Rattle.hm_disk.specs.Disk.{moment_of}
use Rattle.hm_disk.proofs.TransferLemmas.{WrittenSoFar}
use Rattle.hm_disk.proofs.transfer.write_all_at.Given as goal

-- so many bytes are written
abbrev pub invariant-loop-done : goal.invariant-loop-done
invariant-loop-done g l = record {
  within : l.done ≤ length l.bytes;
  told : BothTell (g.D.Disk.told l.fn.disk) (g.D.Disk.told l.disk)
      (WrittenSoFar l.place l.bytes l.done (g.D.Disk.left_since l.fn.disk) (g.D.Disk.left_since l.disk));
  moment : moment_of (g.D.Disk.told l.disk) ≡ moment_of (g.D.Disk.told l.fn.disk);
  past : g.D.Disk.past l.disk ≡ g.D.Disk.past l.fn.disk;
  counted : g.D.Disk.faults l.fn.disk ≤ g.D.Disk.faults l.disk;
}

abbrev pub decreases-loop-done : goal.decreases-loop-done
decreases-loop-done g l = length l.bytes - l.done
