use Rattle.std.proofs.Common.{◌≡◌, length}
use Rattle.hm_disk_forms.specs.MemDisk.{told_of}
use Rattle.hm_disk_tests.proofs.tests.reads_what_was_written_and_zeros_elsewhere.Given as goal

abbrev pub invariant-loop-place : goal.invariant-loop-place
invariant-loop-place g l = length (told_of l.disk).bytes ≡ 201326592

abbrev pub invariant-loop-place-2 : goal.invariant-loop-place-2
invariant-loop-place-2 g l = length (told_of l.disk).bytes ≡ 201326592
