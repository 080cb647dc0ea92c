use Rattle.std.proofs.Common.{◌≡◌, vec_len}
use Rattle.hm_disk_tests.proofs.tests.pattern.Given as goal

abbrev pub invariant-loop-index : goal.invariant-loop-index
invariant-loop-index l = vec_len l.bytes ≡ l.index
