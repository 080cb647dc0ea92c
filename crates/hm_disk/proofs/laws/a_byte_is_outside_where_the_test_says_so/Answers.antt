use Rattle.hm_disk.proofs.CrashLemmas.{is_outside-from, is_outside-is}
use Rattle.hm_disk.proofs.laws.a_byte_is_outside_where_the_test_says_so.Goals as goal

pub returns : goal.returns
returns c = λ ranges byte. (is_outside-is ranges byte, is_outside-from ranges byte)
