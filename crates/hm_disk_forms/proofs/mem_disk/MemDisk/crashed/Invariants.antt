use Rattle.hm_disk_forms.specs.MemDisk.{MayLeaveAfter, told_of}
use Rattle.hm_disk_forms.proofs.mem_disk.MemDisk.crashed.Given as goal

-- what a crash may leave after so many changes
abbrev pub invariant-loop-index : goal.invariant-loop-index
invariant-loop-index l = MayLeaveAfter l.index l.self (told_of l.disk).bytes
