use Rattle.std.proofs.Common.{◌≤◌}
use Rattle.hm_disk_forms.specs.MemDisk.{AreWrites}
use Rattle.hm_disk_forms.proofs.mem_disk.MemDisk.settled.Given as goal

-- of so many changes those from the last sync on are writes
abbrev pub invariant-loop-index : goal.invariant-loop-index
invariant-loop-index l = record {
  within : l.settled ≤ l.index;
  writes : AreWrites l.self.changes l.settled l.index;
}
