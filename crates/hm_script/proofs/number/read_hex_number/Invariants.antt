use Rattle.std.proofs.Common.{◌≡◌, take}
use Rattle.std.specs.Str.Parse.{AllDigits, digits_value}
use Rattle.hm_script.proofs.number.read_hex_number.Given as goal

abbrev pub invariant-loop-digit : goal.invariant-loop-digit
invariant-loop-digit l = record {
  each : AllDigits 16 (take l.digit-index l.word);
  value : l.number ≡ digits_value 16 (take l.digit-index l.word);
}
