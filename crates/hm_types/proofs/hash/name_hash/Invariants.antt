use Rattle.std.proofs.Common.{◌≡◌, drop}
use Rattle.hm_types.specs.Hash.{fnv_from, name_hash}
use Rattle.hm_types.proofs.hash.name_hash.Given as goal

-- the hash goes on over the bytes that are left
abbrev pub invariant-loop-byte : goal.invariant-loop-byte
invariant-loop-byte l = fnv_from l.hash (drop l.byte-index l.fn.name) ≡ name_hash l.fn.name
