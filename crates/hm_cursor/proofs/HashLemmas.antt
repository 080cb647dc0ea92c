-- The hash of every volume has 8 bytes.
use Rattle.std.proofs.Common.{ℕ, ◌*◌, ◌%◌, ◌^◌, ◌<◌, List, [], ◌∷◌, arith}
use Rattle.std.specs.Prelude.{bit_xor}
use Rattle.hm_types.specs.Hash.{fnv_from, name_hash}
use Rattle.hm_cursor.specs.Names.{IsHash}

hash_few : (hash : ℕ) (name : List ℕ) → hash < 2 ^ 64 → fnv_from hash name < 2 ^ 64
hash_few hash [] few = few
hash_few hash (b ∷ bs) few = hash_few (bit_xor hash b * 0x100000001b3 % 2 ^ 64) bs (omega arith)

pub name_hash_few : IsHash name_hash
name_hash_few name = hash_few 0xcbf29ce484222325 name (omega arith)
