use Rattle.std.proofs.Common.{◌≡◌, length}
use Rattle.hm_disk_forms.specs.MemDisk.{told_of}
use Rattle.hm_disk_tests.proofs.tests.counts_its_calls_anew.Given as goal

abbrev pub invariant-loop-want : goal.invariant-loop-want
invariant-loop-want g l = length (told_of l.disk).bytes ≡ 201326592
