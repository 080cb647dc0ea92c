use Rattle.std.proofs.Common.{arith}
use Rattle.hm_script.proofs.NumberLemmas.{byte_of_digits}
use Rattle.hm_script.proofs.file_forms.fill.Goals as goal

pub overflow_cast-result-2 : goal.overflow_cast-result-2
overflow_cast-result-2 c = omega (arith, byte_of_digits c.args.byte.now c.in-Some-read_hex_number.byte c.in-Some-read_hex_number.ensures)
