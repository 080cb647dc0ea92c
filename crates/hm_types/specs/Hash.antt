-- The hash of names.
use Rattle.std.specs.Prelude.{ℕ, ◌*◌, ◌%◌, ◌^◌, List, [], ◌∷◌, bit_xor}

-- the 64-bit FNV-1a hash of some bytes, from a value on
abbrev pub fnv_from : ℕ → List ℕ → ℕ
fnv_from hash [] = hash
fnv_from hash (b ∷ bs) = fnv_from (bit_xor hash b * 0x100000001b3 % 2 ^ 64) bs

-- the hash of a name
abbrev pub name_hash : List ℕ → ℕ
name_hash name = fnv_from 0xcbf29ce484222325 name
