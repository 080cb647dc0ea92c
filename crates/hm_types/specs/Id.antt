-- How ids are printed.
use Rattle.std.specs.Prelude.{ℕ, List, [], ◌++◌, codes, false, ◌^◌, ◌-◌}
use Rattle.std.specs.Fmt.{digits, padded_integral, format_spec}
use Rattle.hm_types.specs.declared.id.Id.{Id}

-- sixteen lower-case hexadecimal digits, as `{:016x}` writes them
abbrev pub hex16 : ℕ → List ℕ
hex16 n = padded_integral (format_spec 32 0 4 16 (2 ^ 64 - 1)) false [] (digits 16 false n)

-- `0x` and the digits of the id
abbrev pub id_text : Id → List ℕ
id_text id = codes "0x" ++ hex16 id.0
