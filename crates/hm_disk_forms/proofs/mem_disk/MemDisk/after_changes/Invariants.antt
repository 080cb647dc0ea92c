use Rattle.std.proofs.Common.{◌≡◌}
use Rattle.hm_disk_forms.specs.MemDisk.{after_first}
use Rattle.hm_disk_forms.proofs.mem_disk.MemDisk.after_changes.Given as goal

-- so many changes are made
abbrev pub invariant-loop-index : goal.invariant-loop-index
invariant-loop-index l = l.disk ≡ after_first l.index l.self
